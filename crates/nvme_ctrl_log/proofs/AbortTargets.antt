-- The commands that an Abort command may abort.
use Rattle.std.proofs.Common.{◌≡◌, ℕ, zero, suc, Bool, if◌then◌else◌, List, [], ◌∷◌, ◌++◌, map, Some, None, ap, sym, ◌∙◌, inl, inr}
use Rattle.std.specs.Prelude.{slice_get}
use Rattle.std.proofs.lemmas.Bool.Decides.{eqb_tells}
use Rattle.nvme_log.specs.declared.event.Event.{Event}
use Rattle.nvme_log.specs.declared.event.Event.TheVariants as event
use Rattle.nvme_log.specs.Rules.{Past}
use Rattle.nvme_log.specs.Queues.{Queue, open_sq}
use Rattle.nvme_log.specs.Effects.{target_of}

-- ---- entries
-- an item of a list is one of a longer list
pub slice_get-append_left : {X : Type 0} (xs ys : List X) (i : ℕ) (x : X) → slice_get xs i ≡ Some x → slice_get (xs ++ ys) i ≡ Some x
slice_get-append_left [] ys i x h = cc h
slice_get-append_left (y ∷ xs) ys zero x h = h
slice_get-append_left (y ∷ xs) ys (suc i) x h = slice_get-append_left xs ys i x h

-- aborts of a region's places, in order
abbrev pub aborts_of : ℕ → List ℕ → List Event
aborts_of r is = map (λ (i : ℕ). event.Abort r i) is

-- the queue whose candidates an Abort command may abort is open, and isn't the admin queue
pub target_is : (past : Past) (sqid : ℕ) (queue : Queue) → target_of past sqid ≡ Some queue → (sqid ≡ 0 → ⊥) × (open_sq past sqid ≡ Some queue)
target_is past sqid queue h = elim (eqb_tells sqid 0) [
  | inl same ↦ let none : None ≡ Some queue = sym (ap (λ (b : Bool). if b then None else open_sq past sqid) same.0) ∙ h in absurd (cc none)
  | inr apart ↦ (apart.1, sym (ap (λ (b : Bool). if b then None else open_sq past sqid) apart.0) ∙ h)
]
