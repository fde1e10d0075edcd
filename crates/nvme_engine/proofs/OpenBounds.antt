-- The bound on the identifiers of open queues, after what an admin command makes.
use Rattle.std.proofs.Common.{◌≡◌, ℕ, ◌<◌, ◌≤◌, ◌==◌, Bool, true, false, if◌then◌else◌, List, [], ◌∷◌, map, max, min, Option, Some, None, refl, ap, ◌∙◌, subst, sym, arith}
use Rattle.std.proofs.lemmas.Bool.{eq-eqb, ne_eqb}
use Rattle.nvme_arbiter.specs.Limits.{queue_limit}
use Rattle.nvme_admin.specs.declared.effect.Effect.{Effect}
use Rattle.nvme_admin.specs.declared.effect.Effect.TheVariants as effect
use Rattle.nvme_log.specs.declared.event.Event.{Event}
use Rattle.nvme_log.specs.declared.event.Event.TheVariants as event
use Rattle.nvme_log.specs.Rules.{FrontRules, Past}
use Rattle.nvme_log.specs.Queues.{Queue, open_sq, open_cq}
use Rattle.nvme_ctrl_log.specs.Notes.{Notes, logged}
use Rattle.nvme_ctrl.specs.Standing.{Stands}
use Rattle.nvme_slots.specs.declared.slot.Slot.{Slot}
use Rattle.nvme_ctrl.specs.declared.state.Controller.{Controller}
use Rattle.nvme_ctrl_log.proofs.LaterEvents.{with_events}
use Rattle.nvme_engine.specs.Making.{made_in, dropped_in, aborted_in, above_opened}
use Rattle.nvme_engine.specs.Standing.{OpensBelow}
use Rattle.nvme_engine.specs.declared.admin.Ending.{Ending}
use Rattle.nvme_engine.specs.declared.admin.Ending.TheVariants.{Dropped, Aborted}

-- ---- events that open no queue from a number on
abbrev OpensUnder : ℕ → Event → Type 0
OpensUnder n (event.OpenSq qid region cqid class) = qid < n
OpensUnder n (event.OpenCq qid region) = qid < n
OpensUnder n e = Unit {0}

abbrev AllUnder : ℕ → List Event → Type 0
AllUnder n [] = Unit {0}
AllUnder n (e ∷ es) = OpensUnder n e × AllUnder n es

opened : {X : Type 0} (qid q n : ℕ) (x : X) (o : Option X) → qid < n → n ≤ q → o ≡ None → (if qid == q then Some x else o) ≡ None
opened qid q n x o under from none = ap (λ (b : Bool). if b then Some x else o) (ne_eqb qid q (λ same. omega (arith, under, from, same))) ∙ none

closed : {X : Type 0} (b : Bool) (o : Option X) → o ≡ None → (if b then None else o) ≡ None
closed true o none = refl
closed false o none = none

-- they leave the open queues below it
few_more : (past : Past) (n : ℕ) (e : Event) → OpensUnder n e → OpensBelow past n → OpensBelow (e ∷ past) n
few_more past n (event.OpenSq qid region cqid class) under few =
    (few.0, λ q from. (opened qid q n _ (open_sq past q) under from (few.1 q from).0, (few.1 q from).1))
few_more past n (event.OpenCq qid region) under few =
    (few.0, λ q from. ((few.1 q from).0, opened qid q n region (open_cq past q) under from (few.1 q from).1))
few_more past n (event.Closing qid region) under few =
    (few.0, λ q from. (closed (qid == q) (open_sq past q) (few.1 q from).0, (few.1 q from).1))
few_more past n (event.ClosedCq qid region) under few =
    (few.0, λ q from. ((few.1 q from).0, closed (qid == q) (open_cq past q) (few.1 q from).1))
few_more past n e under few = few

few_events : (es : List Event) (past : Past) (n : ℕ) → AllUnder n es → OpensBelow past n → OpensBelow (with_events es past) n
few_events [] past n under few = few
few_events (e ∷ es) past n under few = few_events es (e ∷ past) n under.1 (few_more past n e under.0 few)

-- ---- what an admin command makes
aborts_under : (n r : ℕ) (is : List ℕ) → AllUnder n (map (λ (i : ℕ). event.Abort r i) is)
aborts_under n r [] = tt
aborts_under n r (i ∷ is) = (tt, aborts_under n r is)

dropped_under : (n r : ℕ) (ending : Ending) → AllUnder n (dropped_in r ending)
dropped_under n r (Dropped indexes) = aborts_under n r indexes.items
dropped_under n r ending = tt

aborted_under : (n : ℕ) (ending : Ending) → AllUnder n (aborted_in ending)
aborted_under n (Aborted region index) = (tt, tt)
aborted_under n ending = tt

made_under : (n : ℕ) (did : Effect) (ending : Ending) → above_opened did ≤ n → AllUnder n (made_in did ending)
made_under n (effect.Done status dw0) ending few = tt
made_under n (effect.OpenSq qid region cqid cq_region class) ending few = (omega (arith, few), tt)
made_under n (effect.OpenCq qid region) ending few = (omega (arith, few), tt)
made_under n (effect.BeginDelete qid region) ending few = (tt, dropped_under n region ending)
made_under n (effect.CloseCq qid region) ending few = (tt, tt)
made_under n (effect.Abort sqid cid) ending few = aborted_under n ending
made_under n (effect.SetArbitration settings) ending few = (tt, tt)

module _ (rules : FrontRules) (late : Bool) (later : Notes) (c : Controller) (slots : List Slot) (s : Stands rules late later c slots) (past : Past) (ending : Ending) where
  -- the queue that it opens is within the limit
  opened_few : (did : Effect) → logged later ≡ with_events (made_in did ending) past → above_opened did ≤ queue_limit
  opened_few (effect.OpenSq qid region cqid cq_region class) made =
      let queue : Queue = record { region = region; cqid = cqid; class = class } in
      let is : open_sq (logged later) qid ≡ Some queue =
      ap (λ (p : Past). open_sq p qid) made ∙ ap (λ (b : Bool). if b then Some queue else open_sq past qid) (eq-eqb qid qid refl) in
      let few = s.holds.queues.few qid queue is in
      omega (arith, few)
  opened_few (effect.OpenCq qid region) made =
      let is : open_cq (logged later) qid ≡ Some region =
      ap (λ (p : Past). open_cq p qid) made ∙ ap (λ (b : Bool). if b then Some region else open_cq past qid) (eq-eqb qid qid refl) in
      let few = s.numbers.cqs.few qid region (s.holds.lives.cqs qid ∙ is) in
      omega (arith, few)
  opened_few did made = omega arith

  -- a bound that is raised above it is one
  pub few_made : (did : Effect) → logged later ≡ with_events (made_in did ending) past → (n : ℕ) → OpensBelow past n → (m : ℕ)
      → m ≡ max n (min (above_opened did) 65535) → OpensBelow (logged later) m
  few_made did made n few m bound =
      let opens = opened_few did made in
      let is : m ≡ max n (above_opened did) = omega (arith, bound, opens) in
      let more : n ≤ m = omega (arith, is) in
      let under : above_opened did ≤ m = omega (arith, is) in
      let wider : OpensBelow past m = (omega (arith, is, opens, few.0), λ q from. few.1 q (omega (arith, more, from))) in
      subst (λ (p : Past). OpensBelow p m) (sym made) (few_events (made_in did ending) past m (made_under m did ending under) wider)
