-- What a caller sees of adding a region to a front (profile).
use Rattle.std.specs.Prelude.{◌≡◌, ◌≢◌, ◌↔◌, ℕ, ◌<◌, true, false, List, [], ◌∷◌, ◌++◌, length}
use Rattle.nvme_entry.specs.declared.submission.Sqe.{Sqe}
use Rattle.nvme_entry.specs.declared.completion.Cqe.{Cqe}
use Rattle.nvme_admin.specs.declared.bounds.TheConstants.{MAX_REGIONS}
use Rattle.nvme_lane.specs.View.{GetView, PutView}
use Rattle.nvme_front.specs.declared.front.AddError.{AddError}
use Rattle.nvme_front.specs.declared.front.AddError.TheVariants.{Used, TooMany, NoMemory}
use Rattle.nvme_front.specs.View.{FrontView, is_address}

-- a kind of region: where a front has the ends of its regions, where it has those of the other kind, and the address of an end
pub record Kind (E O : Type 0) : Type 0 where
  pub ends : FrontView → List E
  pub others : FrontView → List O
  pub address : E → ℕ

abbrev pub submissions : Kind (GetView Sqe) (PutView Cqe)
submissions = record { ends = λ v. v.gets; others = λ v. v.puts; address = λ g. g.address }

abbrev pub completions : Kind (PutView Cqe) (GetView Sqe)
completions = record { ends = λ v. v.puts; others = λ v. v.gets; address = λ p. p.address }

module _ {E O : Type 0} where
  -- a region of a kind was added with this number. Nothing else changed, except that the front is late where an event came before
  pub record IsAdded (kind : Kind E O) (end : E) (number : ℕ) (v w : FrontView) : Type 0 where
    pub not_used : is_address v (kind.address end) ≡ false
    pub room : length (kind.ends v) < MAX_REGIONS
    pub number_is : number ≡ length (kind.ends v)
    pub ends : kind.ends w ≡ kind.ends v ++ end ∷ []
    pub others : kind.others w ≡ kind.others v
    pub log : w.log ≡ v.log
    pub limit : w.limit ≡ v.limit
    pub mechanism : w.rules.mechanism ≡ v.rules.mechanism
    pub start : w.rules.start ≡ v.rules.start
    pub sizes : w.rules.sizes ≡ v.rules.sizes
    pub hands : w.hands ≡ v.hands
    pub late_after_events : v.log ≢ [] → w.late ≡ true
    pub in_time : v.log ≡ [] → w.late ≡ false

  -- a region of a kind was refused for this cause, and nothing changed
  pub record IsNotAdded (kind : Kind E O) (end : E) (cause : AddError) (v w : FrontView) : Type 0 where
    pub used : (cause ≡ Used) ↔ (is_address v (kind.address end) ≡ true)
    pub too_many : cause ≡ TooMany → length (kind.ends v) ≡ MAX_REGIONS
    pub not_too_many : cause ≡ NoMemory → length (kind.ends v) < MAX_REGIONS
    pub unchanged : w ≡ v
