-- The end of each command that runs is planned.
use Rattle.std.proofs.Common.{◌≡◌, ◌≤◌, ◌⊎◌, ℕ, ◌==◌, Bool, true, false, nat_lt, cond, List, [], ◌∷◌, inl, inr, refl, sym, subst, arith}
use Rattle.std.specs.Prelude.{All}
use Rattle.std.specs.BinaryHeap.{heap_items}
use Rattle.std.specs.Ordering.{is_lt, nat_cmp, ordering_then}
use Rattle.std.specs.declared.cmp.Ordering.TheVariants.{Less, Equal, Greater}
use Rattle.std.proofs.lemmas.Bool.Decides.{nat_tests}
use Rattle.std.proofs.lemmas.List.Elements.{All-cons, All-head, All-nil, All-tail, All-weaker}
use Rattle.nvme_clock.specs.Events.{comes_before, events_in, inserted, sorted}
use Rattle.nvme_clock.specs.Held.{Held, pushed}
use Rattle.nvme_clock.specs.declared.events.Event.{Event as Timed}
use Rattle.nvme_simulation.specs.Plans.{Follows, Plan, events_of, planned}
use Rattle.nvme_simulation.specs.declared.agenda.Agenda.{Agenda}
use Rattle.nvme_simulation.specs.declared.agenda.Event.{Event}
use Rattle.nvme_simulation.specs.declared.agenda.Event.TheVariants.{End}

-- the end of the command of a channel is planned at a time
pub EndIn : (channel at : ℕ) → List (Timed Event) → Type 0
EndIn k at [] = ⊥
EndIn k at (e ∷ es) = ((e.at ≡ at) × (e.what ≡ End k)) ⊎ EndIn k at es

end_inserted : (R : Timed Event → Timed Event → Bool) (k at : ℕ) (x : Timed Event) (es : List (Timed Event)) → EndIn k at es → EndIn k at (inserted R x es)
unfolding EndIn
end_inserted R k at x [] none = absurd none
end_inserted R k at x (e ∷ es) some = by (R x e) some (λ rest. end_inserted R k at x es rest) where
  by : (b : Bool) → ((e.at ≡ at) × (e.what ≡ End k)) ⊎ EndIn k at es → (EndIn k at es → EndIn k at (inserted R x es))
      → EndIn k at (cond b (x ∷ e ∷ es) (e ∷ inserted R x es))
  by true it more = inr it
  by false (inl here) more = inl here
  by false (inr there) more = inr (more there)

here_inserted : (R : Timed Event → Timed Event → Bool) (k : ℕ) (x : Timed Event) (es : List (Timed Event)) → x.what ≡ End k → EndIn k x.at (inserted R x es)
unfolding EndIn
here_inserted R k x [] is = inl (refl, is)
here_inserted R k x (e ∷ es) is = by (R x e) (here_inserted R k x es is) where
  by : (b : Bool) → EndIn k x.at (inserted R x es) → EndIn k x.at (cond b (x ∷ e ∷ es) (e ∷ inserted R x es))
  by true more = inl (refl, is)
  by false more = inr more

pub end_pushed : (k at time : ℕ) (what : Event) (h : Held Event) → EndIn k at h.events → EndIn k at (pushed time what h).events
end_pushed k at time what h some = end_inserted comes_before k at (record { at = time; number = h.next; what = what }) h.events some

pub end_here : (k time : ℕ) (h : Held Event) → EndIn k time (pushed time (End k) h).events
end_here k time h = here_inserted comes_before k (record { at = time; number = h.next; what = End k }) h.events refl

pub end_follows : (k at : ℕ) (a b : Held Event) → Follows a b → EndIn k at a.events → EndIn k at b.events
unfolding planned
end_follows k at a b f some = subst (λ (h : Held Event). EndIn k at h.events) (sym f.is) (go f.plans) where
  go : (ps : List Plan) → EndIn k at (planned ps a).events
  go [] = some
  go (p ∷ ps) = end_pushed k at p.at p.what (planned ps a) (go ps)

-- what another event leaves
pub end_rest : (k at : ℕ) (e : Timed Event) (es : List (Timed Event)) → (e.what ≡ End k → ⊥) → EndIn k at (e ∷ es) → EndIn k at es
unfolding EndIn
end_rest k at e es other (inl here) = absurd (other here.1)
end_rest k at e es other (inr there) = there

pub none_in : (k at : ℕ) → EndIn k at [] → ⊥
unfolding EndIn
none_in k at none = none

-- ---- the first event is the earliest
pub Ascending : List (Timed Event) → Type 0
Ascending [] = Unit {0}
Ascending (e ∷ es) = All (λ x. e.at ≤ x.at) es × Ascending es

before_at : (x y : Timed Event) → comes_before x y ≡ true → x.at ≤ y.at
before_at x y is = by (nat_lt x.at y.at) refl (x.at == y.at) refl is where
  by : (a : Bool) → nat_lt x.at y.at ≡ a → (b : Bool) → (x.at == y.at) ≡ b → is_lt (ordering_then (cond a Less (cond b Equal Greater)) (nat_cmp x.number y.number)) ≡ true → x.at ≤ y.at
  by true t b u is = grind (arith, nat_tests)
  by false t true u is = grind (arith, nat_tests)
  by false t false u is = absurd (cc is)

not_before_at : (x y : Timed Event) → comes_before x y ≡ false → y.at ≤ x.at
not_before_at x y is = by (nat_lt x.at y.at) refl is where
  by : (a : Bool) → nat_lt x.at y.at ≡ a → is_lt (ordering_then (cond a Less (cond (x.at == y.at) Equal Greater)) (nat_cmp x.number y.number)) ≡ false → y.at ≤ x.at
  by true t is = absurd (cc is)
  by false t is = grind (arith, nat_tests)

all_inserted : (P : Timed Event → Type 0) (x : Timed Event) (es : List (Timed Event)) → P x → All P es → All P (inserted comes_before x es)
all_inserted P x [] p all = All-cons P x [] p all
all_inserted P x (e ∷ es) p all = by (comes_before x e) (all_inserted P x es p (All-tail P e es all)) where
  by : (b : Bool) → All P (inserted comes_before x es) → All P (cond b (x ∷ e ∷ es) (e ∷ inserted comes_before x es))
  by true more = All-cons P x (e ∷ es) p all
  by false more = All-cons P e (inserted comes_before x es) (All-head P e es all) more

insert_ascends : (x : Timed Event) (es : List (Timed Event)) → Ascending es → Ascending (inserted comes_before x es)
unfolding Ascending
insert_ascends x [] asc = (All-nil (λ (y : Timed Event). x.at ≤ y.at), tt)
insert_ascends x (e ∷ es) asc = by (comes_before x e) refl (insert_ascends x es asc.1) where
  by : (b : Bool) → comes_before x e ≡ b → Ascending (inserted comes_before x es) → Ascending (cond b (x ∷ e ∷ es) (e ∷ inserted comes_before x es))
  by true is more =
      let first = before_at x e is in (
        All-cons (λ (y : Timed Event). x.at ≤ y.at) e es first
            (All-weaker (λ (y : Timed Event). e.at ≤ y.at) (λ (y : Timed Event). x.at ≤ y.at) (λ y l. omega (arith, first, l)) es asc.0),
        asc,
      )
  by false is more = (all_inserted (λ (y : Timed Event). e.at ≤ y.at) x es (not_before_at x e is) asc.0, more)

sorted_ascends : (es : List (Timed Event)) → Ascending (sorted comes_before es)
unfolding Ascending
sorted_ascends [] = tt
sorted_ascends (e ∷ es) = insert_ascends e (sorted comes_before es) (sorted_ascends es)

-- so the events of an agenda
pub agenda_ascends : (a : Agenda) → Ascending (events_of a).events
agenda_ascends a = sorted_ascends (events_in (heap_items a.events.heap))

in_all : (P : Timed Event → Type 0) (k at : ℕ) (es : List (Timed Event)) → EndIn k at es → All P es → (T : Type 0) → ((e : Timed Event) → e.at ≡ at → P e → T) → T
unfolding EndIn
in_all P k at [] none all T f = absurd none
in_all P k at (e ∷ es) (inl here) all T f = f e here.0 (All-head P e es all)
in_all P k at (e ∷ es) (inr there) all T f = in_all P k at es there (All-tail P e es all) T f

pub first_before : (k at : ℕ) (e : Timed Event) (es : List (Timed Event)) → Ascending (e ∷ es) → EndIn k at (e ∷ es) → e.at ≤ at
unfolding EndIn Ascending
first_before k at e es asc (inl here) = omega (arith, here.0)
first_before k at e es asc (inr there) = in_all (λ (x : Timed Event). e.at ≤ x.at) k at es there asc.0 (e.at ≤ at) (λ x is l. omega (arith, is, l))
