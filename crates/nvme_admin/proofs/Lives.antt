-- The numbers of the regions of queues where queues may lie anywhere.
use Rattle.std.proofs.Common.{◌≡◌, ℕ, suc, ◌<◌, ◌≤◌, ◌==◌, ◌||◌, true, false, if◌then◌else◌, List, [], ◌∷◌, ◌++◌, length, Option, Some, None, is_some, refl, sym, ◌∙◌, subst, arith, inl, inr, true≢false, option_to_list}
use Rattle.std.specs.List.{list_any}
use Rattle.std.proofs.lemmas.Bool.{cases_Bool}
use Rattle.nvme_entry.specs.declared.admin.AdminCommand.{AdminCommand}
use Rattle.nvme_entry.specs.declared.admin.AdminCommand.TheVariants.{DeleteSq, CreateSq, DeleteCq, CreateCq, Abort, SetFeatures, GetFeatures, Other}
use Rattle.nvme_admin.specs.declared.region.Region.{Region}
use Rattle.nvme_admin.specs.History.{Start, TableHistory, Placing, Kind, Effects, Added, Accepted, Finished, Anywhere}
use Rattle.nvme_admin.specs.QueueTable.{table_in, is_used, number_by, placing_in, created_in, sq_regions_in, cq_regions_in, sq_named_in, cq_named_in}
use Rattle.nvme_admin.specs.Accepted.{effects_of}
use Rattle.nvme_admin.proofs.Slots.{other}
use Rattle.nvme_admin.proofs.Reached.{Passes, AreFresh, reached}

-- each number of the list is at most m
abbrev pub AreAtMost : ℕ → List ℕ → Type 0
AreAtMost m [] = Unit {0}
AreAtMost m (k ∷ named) = (k ≤ m) × AreAtMost m named

-- before the first Create no region is named, and where queues may lie anywhere no number is above how many are
abbrev pub Lives : Effects → Type 0
Lives e = (created_in e ≡ false → (sq_named_in e ≡ []) × (cq_named_in e ≡ []))
    × (is_some (placing_in e) ≡ true → AreAtMost (length (sq_named_in e)) (sq_named_in e))
    × (is_some (placing_in e) ≡ true → AreAtMost (length (cq_named_in e)) (cq_named_in e))

at_most-more : (m : ℕ) (named : List ℕ) → AreAtMost m named → AreAtMost (suc m) named
at_most-more m [] a = tt
at_most-more m (k ∷ named) a = let here : k ≤ m = a.0 in ((omega arith), at_most-more m named a.1)

-- one more queue
grown : (placing : Option Placing) (regions : List Region) (prp1 : ℕ) (named : List ℕ) → is_some placing ≡ true → AreAtMost (length named) named
    → AreAtMost (length (option_to_list (number_by placing (length named) regions prp1) ++ named)) (option_to_list (number_by placing (length named) regions prp1) ++ named)
grown None regions prp1 named h a = absurd (true≢false (sym h))
grown (Some p) regions prp1 named h a = ((omega arith), at_most-more (length named) named a)

absent : (m k : ℕ) (named : List ℕ) → AreAtMost m named → m < k → list_any (λ n. n == k) named ≡ false
absent m k [] a l = refl
absent m k (n ∷ named) a l =
    let here : n ≤ m = a.0 in
    (λ i. (other n k (λ p. omega arith)) i || list_any (λ j. j == k) named) ∙ absent m k named a.1 l

fresh : (m k : ℕ) (named : List ℕ) → AreAtMost m named → m < k → is_used named k ≡ false
fresh m k named a l = (λ i. (other k 0 (λ p. omega arith)) i || list_any (λ n. n == k) named) ∙ absent m k named a l

pub fresh-sqs : (e : Effects) → Lives e → AreFresh (placing_in e) (length (sq_named_in e)) (is_used (sq_named_in e))
fresh-sqs e l some k above = fresh (length (sq_named_in e)) k (sq_named_in e) (l.1 some) above

pub fresh-cqs : (e : Effects) → Lives e → AreFresh (placing_in e) (length (cq_named_in e)) (is_used (cq_named_in e))
fresh-cqs e l some k above = fresh (length (cq_named_in e)) k (cq_named_in e) (l.2 some) above

lives-step : (start : Start) (e : Effects) (command : AdminCommand) → Lives e → Passes (table_in start e) command → Lives (Accepted command ∷ e)
lives-step start e (CreateSq qid qsize prp1 cqid qprio pc) l passes =
    ((λ none. absurd (true≢false none)), (λ some. grown (placing_in e) (sq_regions_in e) prp1 (sq_named_in e) some (l.1 some)), l.2)
lives-step start e (CreateCq qid qsize prp1 pc) l passes =
    ((λ none. absurd (true≢false none)), l.1, (λ some. grown (placing_in e) (cq_regions_in e) prp1 (cq_named_in e) some (l.2 some)))
lives-step start e (DeleteSq qid) l passes = l
lives-step start e (DeleteCq qid) l passes = l
lives-step start e (SetFeatures fid sv cdw11) l passes = l
lives-step start e (GetFeatures fid) l passes = l
lives-step start e (Abort sqid cid) l passes = l
lives-step start e Other l passes = l

-- where queues may lie anywhere after this step, they could before it, or no region is named
lives-placed : (e : Effects) (p : Placing) → Lives e → Lives (Anywhere p ∷ e)
lives-placed e p l = elim (cases_Bool (created_in e)) [
  | inl created ↦
      let still : is_some (placing_in (Anywhere p ∷ e)) ≡ is_some (placing_in e) = λ i. is_some (if created i then placing_in e else Some p) in
      (l.0, (λ some. l.1 (sym still ∙ some)), (λ some. l.2 (sym still ∙ some)))
  | inr none ↦ (
    l.0,
    (λ some. subst (λ (named : List ℕ). AreAtMost (length named) named) (sym (l.0 none).0) tt),
    (λ some. subst (λ (named : List ℕ). AreAtMost (length named) named) (sym (l.0 none).1) tt),
  )
]

-- `reached`, where each step that takes effect may use this too
pub reached-alive : (start : Start) (P : Effects → Type 0)
    → P []
    → ((effects : Effects) (kind : Kind) (address slots : ℕ) → P effects → P (Added kind address slots ∷ effects))
    → ((effects : Effects) (command : AdminCommand) → Lives effects → P effects → Passes (table_in start effects) command → P (Accepted command ∷ effects))
    → ((effects : Effects) (qid : ℕ) → P effects → P (Finished qid ∷ effects))
    → ((effects : Effects) (p : Placing) → P effects → P (Anywhere p ∷ effects))
    → (h : TableHistory) → P (effects_of start h)
reached-alive start P base added accepted finished placed h =
    (reached start (λ e. Lives e × P e)
    (((λ none. (refl, refl)), (λ some. tt), (λ some. tt)), base)
    (λ e kind address slots p. (p.0, added e kind address slots p.1))
    (λ e command p passes. (lives-step start e command p.0 passes, accepted e command p.0 p.1 passes))
    (λ e qid p. (p.0, finished e qid p.1))
    (λ e placing p. (lives-placed e placing p.0, placed e placing p.1))
    h).1

pub lives : (start : Start) (h : TableHistory) → Lives (effects_of start h)
lives start h =
    reached start Lives
    ((λ none. (refl, refl)), (λ some. tt), (λ some. tt))
    (λ e kind address slots l. l)
    (lives-step start)
    (λ e qid l. l)
    lives-placed
    h
