-- The queues that are served: those whose state is kept, by the slots of their rings and the queue table.
use Rattle.std.proofs.Common.{◌≡◌, ◌≢◌, ℕ, ◌==◌, Bool, false, if◌then◌else◌, List, Option, Some, None, refl, sym, ap, ◌∙◌, arith}
use Rattle.std.specs.Prelude.{◌↔◌, option_map}
use Rattle.std.proofs.lemmas.Bool.{eq-eqb, ne_eqb}
use Rattle.nvme_admin.specs.declared.verdict.SqEntry.{SqEntry}
use Rattle.nvme_log.specs.Rules.{FrontRules}
use Rattle.nvme_log.specs.Queues.{is_closed_region, qid_of_region}
use Rattle.nvme_placing.specs.Telling.{placing_of}
use Rattle.nvme_ctrl_log.specs.Making.{placing_in}
use Rattle.nvme_ctrl_log.specs.Notes.{Notes, logged}
use Rattle.nvme_slots.specs.declared.slot.Slot.{Slot}
use Rattle.nvme_ctrl.specs.declared.state.Controller.{Controller}
use Rattle.nvme_ctrl.specs.declared.state.SqState.{SqState}
use Rattle.nvme_ctrl.specs.kept.Kept.{StandsAt}
use Rattle.nvme_ctrl.specs.kept.State.{sq_at}

-- the region of a queue with a ring of so many slots, by its entry in the table
abbrev pub region_in : (slots : ℕ) → Option SqEntry → Option ℕ
region_in slots entry = if slots == 0 then None else option_map (λ (e : SqEntry). e.region) entry

module _ (rules : FrontRules) (late : Bool) (notes : Notes) (c : Controller) (slots : List Slot) (s : StandsAt rules late notes c slots) (q : ℕ) where
  -- it is the one that is kept
  pub kept_region : region_in (sq_at c.sqs q).ring.slots (s.content.table.sq q) ≡ s.content.sq_life q
  kept_region = by (s.content.sq_life q) refl where
    by : (o : Option ℕ) → s.content.sq_life q ≡ o → region_in (sq_at c.sqs q).ring.slots (s.content.table.sq q) ≡ o
    by None none =
        let empty : (sq_at c.sqs q).ring.slots ≡ 0 = ap (λ (x : SqState). x.ring.slots) (s.numbers.sqs.none q none) in
        ap (λ (b : Bool). if b then None else option_map (λ (e : SqEntry). e.region) (s.content.table.sq q)) (eq-eqb (sq_at c.sqs q).ring.slots 0 empty)
    by (Some r) is =
        let it = s.numbers.sqs.each q r is in
        ap (λ (b : Bool). if b then None else option_map (λ (e : SqEntry). e.region) (s.content.table.sq q))
        (ne_eqb (sq_at c.sqs q).ring.slots 0 (λ empty. omega (arith, empty, it.slots, it.some)))
        ∙ ap (option_map (λ (e : SqEntry). e.region)) it.in_table ∙ ap (λ (x : ℕ). Some x) it.on

  -- the table has no regions but those of the rules
  pub on_regions : placing_in rules ≡ None → placing_of c.table ≡ None
  on_regions none = sym s.numbers.tells.placing ∙ s.holds.tabled.placing ∙ none

  -- a queue is served on the region that was opened for it, until its deletion is finished
  pub serves : (r : ℕ) → (s.content.sq_life q ≡ Some r) ↔ ((qid_of_region (logged notes) r ≡ Some q) × (is_closed_region (logged notes) r ≡ false))
  serves r = (λ is. (s.holds.lives.named q r is, s.holds.lives.not_closed q r is), λ both. s.holds.lives.there r q both.0 both.1)

  -- so where an answer is the region by the slots of its ring and its entry in the table
  pub serves_at : (answer : Option ℕ) → answer ≡ region_in (sq_at c.sqs q).ring.slots (s.content.table.sq q) → (r : ℕ)
      → (answer ≡ Some r) ↔ ((qid_of_region (logged notes) r ≡ Some q) × (is_closed_region (logged notes) r ≡ false))
  serves_at answer is r = (λ at. (serves r).0 (sym kept_region ∙ sym is ∙ at), λ both. is ∙ kept_region ∙ (serves r).1 both)

-- a queue with no ring has none, and any other that of its entry
pub no_ring : (slots : ℕ) (entry : Option SqEntry) → slots ≡ 0 → region_in slots entry ≡ None
no_ring slots entry none = ap (λ (b : Bool). if b then None else option_map (λ (e : SqEntry). e.region) entry) (eq-eqb slots 0 none)

pub some_ring : (slots : ℕ) (entry : Option SqEntry) → slots ≢ 0 → region_in slots entry ≡ option_map (λ (e : SqEntry). e.region) entry
some_ring slots entry some = ap (λ (b : Bool). if b then None else option_map (λ (e : SqEntry). e.region) entry) (ne_eqb slots 0 some)
