-- A tag stands for one command at a time, and a command has one tag.
use Rattle.std.proofs.Common.{◌≡◌, ℕ, zero, suc, ◌<◌, ◌==◌, Bool, true, false, List, [], ◌∷◌, ◌++◌, length, map, take, Option, Some, None, refl, sym, ap, ◌∙◌, subst, arith, append_assoc, length-append, ◌≤◌, ◌⊎◌, inl, inr, if◌then◌else◌, ◌||◌}
use Rattle.std.specs.Prelude.{slice_get}
use Rattle.std.proofs.lemmas.Bool.{cases_Bool, eq-eqb, eqb-true, or_left, or_right}
use Rattle.std.proofs.lemmas.Option.{same_Some, slice_get_within}
use mathlib.Core.List.{IsPrefix}
use Rattle.nvme_arbiter.specs.declared.pick.Pick.{Pick}
use Rattle.nvme_log.specs.declared.event.Event.TheVariants as event
use Rattle.nvme_log.specs.Rules.{Past, FrontRules, Each}
use Rattle.nvme_log.specs.Effects.{EffectsAtOnce}
use Rattle.nvme_log.specs.Queues.{Queue, open_sq}
use Rattle.nvme_log.specs.Places.{fetched, waiting, fate_of, is_waiting, is_aborted}
use Rattle.nvme_log.specs.declared.place.Place.{Place}
use Rattle.nvme_log.specs.Dispatches.{place_at, dispatched_by, dispatched}
use Rattle.nvme_log.proofs.AbortLaws.{WaitsNot, aborted-not_dispatched, dispatched-waits_not}
use Rattle.nvme_log.proofs.Members.{IsIn, in-all, in-append_left, in-append_right, in-take, only, Ascending}
use Rattle.nvme_log.proofs.Prefixes.{fetched-after}
use Rattle.nvme_log.proofs.Turns.{in-waits, waiting-rises, region-io, admin-unaborted}
use Rattle.nvme_ctrl_log.specs.Notes.{Notes, Note, Logged, Passed, Taken, EachNote, logged}
use Rattle.nvme_ctrl_log.specs.Tags.{is_place, is_passed, handed, taken, holder}
use Rattle.nvme_ctrl_log.specs.Account.{IsLawful}
use Rattle.nvme_ctrl_log.specs.Laws.{TagsAreApart}
use Rattle.nvme_ctrl_log.proofs.Noted.{each-event}

-- ---- places that are apart
-- no place stands twice in a list
abbrev pub IsApart : List Place → Type 0
IsApart [] = Unit {0}
IsApart (p ∷ ps) = ((q : Place) → IsIn q ps → p ≡ q → ⊥) × IsApart ps

in-either : (q : Place) (xs ys : List Place) → IsIn q (xs ++ ys) → IsIn q xs ⊎ IsIn q ys
in-either q [] ys is = inr is
in-either q (x ∷ xs) ys (inl e) = inl (inl e)
in-either q (x ∷ xs) ys (inr is) = elim (in-either q xs ys is) [
  | inl left ↦ inl (inr left)
  | inr right ↦ inr right
]

apart-append : (ps qs : List Place) → IsApart ps → IsApart qs → ((q : Place) → IsIn q ps → IsIn q qs → ⊥) → IsApart (ps ++ qs)
apart-append [] qs a b h = b
apart-append (p ∷ ps) qs a b h = (
  λ q is same. elim (in-either q ps qs is) [
    | inl left ↦ a.0 q left same
    | inr right ↦ h q (inl same) right
  ],
  apart-append ps qs a.1 b (λ q is. h q (inr is)),
)

-- an element of a mapped list
record IsMapped (region : ℕ) (q : Place) (is : List ℕ) : Type 0 where
  pub index : ℕ
  pub among : IsIn index is
  pub same : place_at region index ≡ q

in-map : (region : ℕ) (q : Place) (is : List ℕ) → IsIn q (map (place_at region) is) → IsMapped region q is
in-map region q [] h = absurd h
in-map region q (i ∷ is) (inl e) = record { index = i; among = inl refl; same = e }
in-map region q (i ∷ is) (inr h) = let it = in-map region q is h in record { index = it.index; among = inr it.among; same = it.same }

apart-taken : (region n : ℕ) (is : List ℕ) → Ascending is → IsApart (map (place_at region) (take n is))
apart-taken region zero is a = tt
apart-taken region (suc n) [] a = tt
apart-taken region (suc n) (i ∷ is) a = (
  λ q h same.
      let it = in-map region q (take n is) h in
      let less : i < it.index = a.0 it.index (in-take it.index n is it.among) in
      let equal : i ≡ it.index = ap (λ (p : Place). p.index) (same ∙ sym it.same) in
      omega (arith, less, equal),
  apart-taken region n is a.1,
)

-- ---- the dispatched places
-- what a pick dispatches was fetched, and waited
dispatched_by-waits : (past : Past) (pick : Pick) (o : Option Queue) (q : Place) → IsIn q (dispatched_by past pick o)
    → (q.index < length (fetched past q.region)) × (is_waiting (fate_of past q.region q.index) ≡ true)
dispatched_by-waits past pick None q h = absurd h
dispatched_by-waits past pick (Some queue) q h = by (pick.qid == 0) h where
  by : (b : Bool) → IsIn q (if b then [] else map (place_at queue.region) (take pick.n (waiting past queue.region)))
      → (q.index < length (fetched past q.region)) × (is_waiting (fate_of past q.region q.index) ≡ true)
  by true k = absurd k
  by false k =
      let it = in-map queue.region q (take pick.n (waiting past queue.region)) k in
      subst (λ (p : Place). (p.index < length (fetched past p.region)) × (is_waiting (fate_of past p.region p.index) ≡ true)) it.same
      (in-waits past queue.region it.index (in-take it.index pick.n (waiting past queue.region) it.among))

dispatched_by-apart : (past : Past) (pick : Pick) (o : Option Queue) → IsApart (dispatched_by past pick o)
dispatched_by-apart past pick None = tt
dispatched_by-apart past pick (Some queue) = by (pick.qid == 0) where
  by : (b : Bool) → IsApart (if b then [] else map (place_at queue.region) (take pick.n (waiting past queue.region)))
  by true = tt
  by false = apart-taken queue.region pick.n (waiting past queue.region) (waiting-rises past queue.region)

-- and is of an I/O queue
dispatched_by-io : (rules : FrontRules) (past : Past) (pick : Pick) (o : Option Queue) (q : Place) → Each (EffectsAtOnce rules) past → open_sq past pick.qid ≡ o
    → IsIn q (dispatched_by past pick o) → q.region ≡ 0 → ⊥
dispatched_by-io rules past pick None q each is h admin = h
dispatched_by-io rules past pick (Some queue) q each is h admin = by (pick.qid == 0) refl h where
  by : (b : Bool) → (pick.qid == 0) ≡ b → IsIn q (if b then [] else map (place_at queue.region) (take pick.n (waiting past queue.region))) → ⊥
  by true e k = k
  by false e k =
      let it = in-map queue.region q (take pick.n (waiting past queue.region)) k in
      region-io rules past each pick.qid queue is (λ first. let other = sym e ∙ eq-eqb pick.qid 0 first in cc other) (ap (λ (p : Place). p.region) it.same ∙ admin)

-- ---- the places that are handed over
-- they were dispatched from I/O queues, or passed on
record IsDispatched (notes : Notes) (q : Place) : Type 0 where
  among : IsIn q (dispatched (logged notes))
  io : q.region ≡ 0 → ⊥

record IsPassedOn (notes : Notes) (q : Place) : Type 0 where
  of_admin : q.region ≡ 0
  passed : is_passed notes q.index ≡ true

in-handed : (rules : FrontRules) (notes : Notes) → EachNote (IsLawful rules) notes → (q : Place) → IsIn q (handed notes) → IsDispatched notes q ⊎ IsPassedOn notes q
in-handed rules [] h q is = absurd is
in-handed rules (Logged (event.Pick seen pick) ∷ notes) h q is =
    elim (in-either q (handed notes) (dispatched_by (logged notes) pick (open_sq (logged notes) pick.qid)) is) [
      | inl old ↦ elim (in-handed rules notes h.1 q old) [
        | inl it ↦ inl (record { among = in-append_left q (dispatched (logged notes)) (dispatched_by (logged notes) pick (open_sq (logged notes) pick.qid)) it.among; io = it.io })
        | inr it ↦ inr (record { of_admin = it.of_admin; passed = it.passed })
      ]
      | inr new ↦ inl (record {
        among = in-append_right q (dispatched (logged notes)) (dispatched_by (logged notes) pick (open_sq (logged notes) pick.qid)) new;
        io = dispatched_by-io rules (logged notes) pick (open_sq (logged notes) pick.qid) q (each-event _ rules (λ past e it. it.effects_at_once) notes h.1) refl new;
      })
    ]
in-handed rules (Passed j ∷ notes) h q is = elim (in-either q (handed notes) (place_at 0 j ∷ []) is) [
  | inl old ↦ elim (in-handed rules notes h.1 q old) [
    | inl it ↦ inl (record { among = it.among; io = it.io })
    | inr it ↦ inr (record { of_admin = it.of_admin; passed = or_right (j == q.index) (is_passed notes q.index) it.passed })
  ]
  | inr new ↦ inr (record { of_admin = of_new new; passed = passed_new new })
] where
  of_new : IsIn q (place_at 0 j ∷ []) → q.region ≡ 0
  of_new (inl e) = sym (ap (λ (p : Place). p.region) e)
  of_new (inr e) = absurd e

  passed_new : IsIn q (place_at 0 j ∷ []) → (j == q.index || is_passed notes q.index) ≡ true
  passed_new (inl e) = or_left (j == q.index) (is_passed notes q.index) (eq-eqb j q.index (ap (λ (p : Place). p.index) e))
  passed_new (inr e) = absurd e
in-handed rules (note ∷ notes) h q is = elim (in-handed rules notes h.1 q is) [
  | inl it ↦ inl (record { among = it.among; io = it.io })
  | inr it ↦ inr (record { of_admin = it.of_admin; passed = it.passed })
]

pub handed-apart : (rules : FrontRules) (notes : Notes) → EachNote (IsLawful rules) notes → IsApart (handed notes)
handed-apart rules [] h = tt
handed-apart rules (Logged (event.Pick seen pick) ∷ notes) h =
    apart-append (handed notes) (dispatched_by (logged notes) pick (open_sq (logged notes) pick.qid)) (handed-apart rules notes h.1)
    (dispatched_by-apart (logged notes) pick (open_sq (logged notes) pick.qid)) (λ q old new. elim (in-handed rules notes h.1 q old) [
      | inl it ↦
          let no : is_waiting (fate_of (logged notes) q.region q.index) ≡ false = in-all (WaitsNot (logged notes)) q (dispatched (logged notes)) (dispatched-waits_not (logged notes)) it.among in
          let yes = (dispatched_by-waits (logged notes) pick (open_sq (logged notes) pick.qid) q new).1 in
          cc (no, yes)
      | inr it ↦ dispatched_by-io rules (logged notes) pick (open_sq (logged notes) pick.qid) q (each-event _ rules (λ past e x. x.effects_at_once) notes h.1) refl new it.of_admin
    ])
handed-apart rules (Passed j ∷ notes) h =
    apart-append (handed notes) (place_at 0 j ∷ []) (handed-apart rules notes h.1) (λ q none same. none, tt) (λ q old new. by q new (in-handed rules notes h.1 q old)) where
      by : (q : Place) → IsIn q (place_at 0 j ∷ []) → IsDispatched notes q ⊎ IsPassedOn notes q → ⊥
      by q (inl e) (inl it) = it.io (sym (ap (λ (p : Place). p.region) e))
      by q (inl e) (inr it) =
          let same : is_passed notes j ≡ true = ap (λ (p : Place). is_passed notes p.index) e ∙ it.passed in
          let first = h.0.first in
          cc (same, first)
      by q (inr e) it = e
handed-apart rules (note ∷ notes) h = handed-apart rules notes h.1

-- they were fetched
fetched-on : (note : Note) (notes : Notes) (r : ℕ) → length (fetched (logged notes) r) ≤ length (fetched (logged (note ∷ notes)) r)
fetched-on (Logged e) notes r =
    let more = fetched-after (e ∷ []) (logged notes) r in
    let longer = ap length more.1 in
    let sum = length-append (fetched (logged notes) r) more.0 in
    omega (arith, longer, sum)
fetched-on note notes r = omega arith

pub handed-fetched : (rules : FrontRules) (notes : Notes) → EachNote (IsLawful rules) notes → (q : Place) → IsIn q (handed notes) → q.index < length (fetched (logged notes) q.region)
handed-fetched rules [] h q is = absurd is
handed-fetched rules (Logged (event.Pick seen pick) ∷ notes) h q is =
    elim (in-either q (handed notes) (dispatched_by (logged notes) pick (open_sq (logged notes) pick.qid)) is) [
      | inl old ↦ handed-fetched rules notes h.1 q old
      | inr new ↦ (dispatched_by-waits (logged notes) pick (open_sq (logged notes) pick.qid) q new).0
    ]
handed-fetched rules (Passed j ∷ notes) h q is = elim (in-either q (handed notes) (place_at 0 j ∷ []) is) [
  | inl old ↦ handed-fetched rules notes h.1 q old
  | inr new ↦ subst (λ (p : Place). p.index < length (fetched (logged notes) p.region)) (only q (place_at 0 j) new) (slice_get_within (fetched (logged notes) 0) j h.0.entry h.0.is_there)
]
handed-fetched rules (note ∷ notes) h q is = let before = handed-fetched rules notes h.1 q is in let on = fetched-on note notes q.region in omega (arith, before, on)

-- ---- the places that the device took
-- a tag that the post of another place leaves
released : (c r i : ℕ) (o : Option Place) (p : Place) → (if is_place r i o then None else o) ≡ Some p → o ≡ Some p
released c r i o p h = by (is_place r i o) h where
  by : (b : Bool) → (if b then None else o) ≡ Some p → o ≡ Some p
  by true k = cc k
  by false k = k

pub holder-taken : (notes : Notes) (t : ℕ) (p : Place) → holder notes t ≡ Some p → IsIn p (taken notes)
holder-taken [] t p h = cc h
holder-taken (Taken tag r i ∷ notes) t p h = by (tag == t) h (holder-taken notes t p) where
  by : (b : Bool) → (if b then Some (place_at r i) else holder notes t) ≡ Some p → (holder notes t ≡ Some p → IsIn p (taken notes)) → IsIn p (taken notes ++ place_at r i ∷ [])
  by true k earlier = in-append_right p (taken notes) (place_at r i ∷ []) (inl (same_Some _ _ k))
  by false k earlier = in-append_left p (taken notes) (place_at r i ∷ []) (earlier k)
holder-taken (Logged (event.Post c r i cqe) ∷ notes) t p h = holder-taken notes t p (released c r i (holder notes t) p h)
holder-taken (note ∷ notes) t p h = holder-taken notes t p h

-- they are the first of those that are handed over
next-is : (xs rest : List Place) (x : Place) → slice_get (xs ++ rest) (length xs) ≡ Some x → slice_get rest 0 ≡ Some x
next-is [] rest x h = h
next-is (y ∷ xs) rest x h = next-is xs rest x h

longer : (xs rest : List Place) (x : Place) (all : List Place) → xs ++ rest ≡ all → slice_get rest 0 ≡ Some x → IsPrefix (xs ++ x ∷ []) all
longer xs [] x all is h = cc h
longer xs (y ∷ rest) x all is h =
    let same : y ≡ x = same_Some _ _ h in
    (rest, append_assoc xs (x ∷ []) rest ∙ ap (λ (z : Place). xs ++ z ∷ rest) (sym same) ∙ is)

more-handed : (xs all new : List Place) → IsPrefix xs all → IsPrefix xs (all ++ new)
more-handed xs all new h = (h.0 ++ new, sym (append_assoc xs h.0 new) ∙ ap (λ (z : List Place). z ++ new) h.1)

pub taken-first : (rules : FrontRules) (notes : Notes) → EachNote (IsLawful rules) notes → IsPrefix (taken notes) (handed notes)
taken-first rules [] h = ([], refl)
taken-first rules (Taken tag r i ∷ notes) h =
    let before = taken-first rules notes h.1 in
    longer (taken notes) before.0 (place_at r i) (handed notes) before.1
    (next-is (taken notes) before.0 (place_at r i) (subst (λ (z : List Place). slice_get z (length (taken notes)) ≡ Some (place_at r i)) (sym before.1) h.0.next))
taken-first rules (Logged (event.Pick seen pick) ∷ notes) h =
    more-handed (taken notes) (handed notes) (dispatched_by (logged notes) pick (open_sq (logged notes) pick.qid)) (taken-first rules notes h.1)
taken-first rules (Passed j ∷ notes) h = more-handed (taken notes) (handed notes) (place_at 0 j ∷ []) (taken-first rules notes h.1)
taken-first rules (note ∷ notes) h = taken-first rules notes h.1

holder-handed : (rules : FrontRules) (notes : Notes) → EachNote (IsLawful rules) notes → (t : ℕ) (p : Place) → holder notes t ≡ Some p → IsIn p (handed notes)
holder-handed rules notes h t p is =
    let first = taken-first rules notes h in
    subst (IsIn p) first.1 (in-append_left p (taken notes) first.0 (holder-taken notes t p is))

pub holder-unaborted : (rules : FrontRules) (notes : Notes) → EachNote (IsLawful rules) notes → (t r i : ℕ) → holder notes t ≡ Some (place_at r i)
    → is_aborted (logged notes) r i ≡ false
holder-unaborted rules notes h t r i is = elim (cases_Bool (is_aborted (logged notes) r i)) [
  | inl aborted ↦
      let at_once = each-event _ rules (λ past e it. it.effects_at_once) notes h in
      elim (in-handed rules notes h (place_at r i) (holder-handed rules notes h t (place_at r i) is)) [
        | inl it ↦
            let none = aborted-not_dispatched rules (logged notes) at_once r i aborted in
            absurd (in-all (λ (p : Place). p ≡ place_at r i → ⊥) (place_at r i) (dispatched (logged notes)) none it.among refl)
        | inr it ↦ absurd (admin-unaborted rules (logged notes) at_once i (subst (λ (x : ℕ). is_aborted (logged notes) x i ≡ true) it.of_admin aborted))
      ]
  | inr unaborted ↦ unaborted
]

-- ---- tags
-- a place that comes next wasn't taken before
in-between : (xs rest : List Place) (x : Place) → IsIn x (xs ++ x ∷ rest)
in-between [] rest x = inl refl
in-between (y ∷ xs) rest x = inr (in-between xs rest x)

not-again : (xs rest : List Place) (x : Place) → IsApart (xs ++ x ∷ rest) → IsIn x xs → ⊥
not-again [] rest x a h = h
not-again (y ∷ xs) rest x a (inl e) = a.0 x (in-between xs rest x) e
not-again (y ∷ xs) rest x a (inr h) = not-again xs rest x a.1 h

taken-once : (rules : FrontRules) (notes : Notes) (tag r i : ℕ) → EachNote (IsLawful rules) (Taken tag r i ∷ notes) → IsIn (place_at r i) (taken notes) → ⊥
taken-once rules notes tag r i h is =
    let first = taken-first rules (Taken tag r i ∷ notes) h in
    not-again (taken notes) first.0 (place_at r i)
    (subst IsApart (sym (sym (append_assoc (taken notes) (place_at r i ∷ []) first.0) ∙ first.1)) (handed-apart rules notes h.1)) is

tags-apart : (rules : FrontRules) (notes : Notes) → EachNote (IsLawful rules) notes → (t u : ℕ) (p : Place) → holder notes t ≡ Some p → holder notes u ≡ Some p → t ≡ u
tags-apart rules [] h t u p ht hu = cc ht
tags-apart rules (Taken tag r i ∷ notes) h t u p ht hu = by (tag == t) (tag == u) refl refl ht hu (tags-apart rules notes h.1 t u p) where
  by : (a b : Bool) → (tag == t) ≡ a → (tag == u) ≡ b → (if a then Some (place_at r i) else holder notes t) ≡ Some p → (if b then Some (place_at r i) else holder notes u) ≡ Some p
      → (holder notes t ≡ Some p → holder notes u ≡ Some p → t ≡ u) → t ≡ u
  by true true e f j k earlier = sym (eqb-true tag t e) ∙ eqb-true tag u f
  by true false e f j k earlier = absurd (taken-once rules notes tag r i h (subst (λ (z : Place). IsIn z (taken notes)) (sym (same_Some _ _ j)) (holder-taken notes u p k)))
  by false true e f j k earlier = absurd (taken-once rules notes tag r i h (subst (λ (z : Place). IsIn z (taken notes)) (sym (same_Some _ _ k)) (holder-taken notes t p j)))
  by false false e f j k earlier = earlier j k
tags-apart rules (Logged (event.Post c r i cqe) ∷ notes) h t u p ht hu =
    tags-apart rules notes h.1 t u p (released c r i (holder notes t) p ht) (released c r i (holder notes u) p hu)
tags-apart rules (note ∷ notes) h t u p ht hu = tags-apart rules notes h.1 t u p ht hu

pub tags_are_apart : TagsAreApart
tags_are_apart rules notes h t u p ht hu = tags-apart rules notes h.each t u p ht hu
