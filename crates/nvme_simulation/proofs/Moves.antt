-- A command of a queue that comes, and one that goes on to its next stage.
use Rattle.std.proofs.Common.{◌≡◌, ◌≢◌, ◌∙◌, ℕ, zero, suc, ◌+◌, ◌-◌, ◌<◌, ◌≤◌, ◌++◌, ◌∷◌, [], true, false, nat_lt, List, length, get_or, Option, Some, None, option_map, refl, sym, ap, arith, inl, inr}
use Rattle.std.specs.Prelude.{drop, slice_get, slice_set}
use Rattle.std.proofs.lemmas.Bool.{cases_eq, cases_lt}
use Rattle.std.proofs.lemmas.Bool.Decides.{nat_tests}
use Rattle.std.proofs.lemmas.List.{get_or-set_same, get_or-set_other, length-set}
use Rattle.std.proofs.lemmas.Option.{slice_get-get_or, slice_get_past}
use Rattle.nvme_simulation.specs.declared.flight.Flight.{Flight}
use Rattle.nvme_simulation.specs.declared.flight.Flights.{Flights}
use Rattle.nvme_simulation.specs.declared.flight.Request.{Request}
use Rattle.nvme_simulation.specs.declared.flight.Stage.{Stage}
use Rattle.nvme_simulation.specs.declared.flight.Stage.TheVariants.{Done}
use Rattle.nvme_simulation.specs.Marks.{arrived, flight_at, gone_on}
use Rattle.nvme_simulation.specs.Ranks.{next_stage}
use Rattle.nvme_simulation.specs.Stages.{HasCome, Keeps, Moves, Stays, stage_at}

-- a list with another item at a place has it there, and all else as it was
pub set_here : {X : Type 0} (xs : List X) (i : ℕ) (x : X) → i < length xs → slice_get (slice_set xs i x) i ≡ Some x
set_here xs i x l =
    let long : i < length (slice_set xs i x) = omega (arith, l, length-set xs i x) in
    slice_get-get_or (slice_set xs i x) i x long ∙ ap Some (get_or-set_same xs i x x l)

pub set_there : {X : Type 0} (xs : List X) (i j : ℕ) (x : X) → j ≢ i → slice_get (slice_set xs i x) j ≡ slice_get xs j
set_there xs i j x other = elim (cases_lt j (length xs)) [
  | inl l ↦
      let long : j < length (slice_set xs i x) = omega (arith, l, length-set xs i x) in
      slice_get-get_or (slice_set xs i x) j x long ∙ ap Some (get_or-set_other xs i j x x other) ∙ sym (slice_get-get_or xs j x l)
  | inr past ↦
      let also : length (slice_set xs i x) ≤ j = omega (arith, past, length-set xs i x) in
      slice_get_past (slice_set xs i x) j also ∙ sym (slice_get_past xs j past)
]

-- a list with an item behind it has it there, and all else as it was
pub at_end : {X : Type 0} (xs : List X) (x : X) → slice_get (xs ++ x ∷ []) (length xs) ≡ Some x
at_end [] x = refl
at_end (y ∷ ys) x = at_end ys x

pub beside : {X : Type 0} (xs : List X) (x : X) (j : ℕ) → j ≢ length xs → slice_get (xs ++ x ∷ []) j ≡ slice_get xs j
beside [] x zero other = absurd (other refl)
beside [] x (suc j) other = refl
beside (y ∷ ys) x zero other = refl
beside (y ∷ ys) x (suc j) other = beside ys x j (λ e. other (ap suc e))

-- a list by its first item and the rest
split : (xs ys : List Flight) (x : Flight) → 0 < length xs → x ≡ get_or xs 0 x → ys ≡ drop 1 xs → xs ≡ x ∷ ys
split [] ys x some head tail = absurd (omega (arith, some))
split (z ∷ zs) ys x some head tail = ap (λ (y : Flight). y ∷ zs) (sym head) ∙ ap (λ (ws : List Flight). x ∷ ws) (sym tail)

-- the stage of a number that is kept
pub kept_at : (f : Flights) (n : ℕ) → f.first ≤ n → stage_at f n ≡ option_map (λ (x : Flight). x.stage) (slice_get f.kept.items (n - f.first))
kept_at f n l = let no : nat_lt n f.first ≡ false = grind (arith, nat_tests) in rw no refl

-- and its command
held_at : (f : Flights) (n : ℕ) → f.first ≤ n → flight_at f n ≡ slice_get f.kept.items (n - f.first)
held_at f n l = let no : nat_lt n f.first ≡ false = grind (arith, nat_tests) in rw no refl

-- a number whose command is forgotten
gone_at : (f : Flights) (n : ℕ) → n < f.first → flight_at f n ≡ None
gone_at f n l = let yes : nat_lt n f.first ≡ true = grind (arith, nat_tests) in rw yes refl

keeps_then : (a b c : Option Flight) → Keeps a b → Keeps b c → Keeps a c
keeps_then a b c first (inr e) = inr e
keeps_then a b c (inl f) (inl e) = inl (e ∙ f)
keeps_then a b c (inr f) (inl e) = inr (e ∙ f)

pub stays_self : (f : Flights) → Stays f f
stays_self f = record { stages = λ n. refl; flights = λ n. inl refl }

pub stays_then : (a b c : Flights) → Stays a b → Stays b c → Stays a c
stays_then a b c first second = record {
  stages = λ n. second.stages n ∙ first.stages n;
  flights = λ n. keeps_then (flight_at a n) (flight_at b n) (flight_at c n) (first.flights n) (second.flights n);
}

-- the first one that is kept is forgotten, which is done
pub forgets : (before after : Flights) (x : Flight) → 0 < length before.kept.items → x ≡ get_or before.kept.items 0 x → after.kept.items ≡ drop 1 before.kept.items
    → after.first ≡ before.first + 1 → x.stage ≡ Done → Stays before after
forgets before after x some head tail first done = record {
  stages = λ n. elim (cases_lt n before.first) [
    | inl early ↦
        let yes : nat_lt n before.first ≡ true = grind (arith, nat_tests) in
        let also : nat_lt n after.first ≡ true = (let l : n < after.first = omega (arith, early, first) in grind (arith, nat_tests)) in
        rw (yes, also) refl
    | inr late ↦ elim (cases_eq n before.first) [
      | inl same ↦
          let l : n < after.first = omega (arith, same, first) in
          let also : nat_lt n after.first ≡ true = grind (arith, nat_tests) in
          let none : n - before.first ≡ 0 = omega (arith, same) in
          let there : stage_at before n ≡ Some Done =
          kept_at before n late ∙ ap (λ (k : ℕ). option_map (λ (z : Flight). z.stage) (slice_get before.kept.items k)) none
          ∙ ap (λ (zs : List Flight). option_map (λ (z : Flight). z.stage) (slice_get zs 0)) was ∙ ap Some done in
          rw also (sym there)
      | inr other ↦
          let later : after.first ≤ n = omega (arith, late, other, first) in
          let one : n - before.first ≡ suc (n - after.first) = omega (arith, later, first) in
          kept_at after n later
          ∙ sym (kept_at before n late ∙ ap (λ (k : ℕ). option_map (λ (z : Flight). z.stage) (slice_get before.kept.items k)) one
          ∙ ap (λ (zs : List Flight). option_map (λ (z : Flight). z.stage) (slice_get zs (suc (n - after.first)))) was)
    ]
  ];
  flights = λ n. elim (cases_lt n after.first) [
    | inl early ↦ inr (gone_at after n early)
    | inr late ↦
        let also : before.first ≤ n = omega (arith, late, first) in
        let one : n - before.first ≡ suc (n - after.first) = omega (arith, late, first) in
        inl (held_at after n late
        ∙ sym (held_at before n also ∙ ap (slice_get before.kept.items) one ∙ ap (λ (zs : List Flight). slice_get zs (suc (n - after.first))) was))
  ];
} where
  was : before.kept.items ≡ x ∷ after.kept.items
  was = split before.kept.items after.kept.items x some head tail

-- one comes behind the others
pub comes : (now : ℕ) (request : Request) (before after : Flights) → after.first ≡ before.first → after.kept.items ≡ before.kept.items ++ arrived now request ∷ []
    → HasCome now request before after
comes now request before after first items = record {
  was = kept_at before place (omega arith) ∙ ap (option_map (λ (z : Flight). z.stage)) none;
  is = kept_at after place early ∙ ap (option_map (λ (z : Flight). z.stage)) there;
  others = λ n other. elim (cases_lt n before.first) [
    | inl l ↦
        let yes : nat_lt n before.first ≡ true = grind (arith, nat_tests) in
        let also : nat_lt n after.first ≡ true = ap (nat_lt n) first ∙ yes in
        rw (yes, also) refl
    | inr l ↦
        let later : after.first ≤ n = omega (arith, l, first) in
        kept_at after n later ∙ ap (option_map (λ (z : Flight). z.stage)) (same n l other) ∙ sym (kept_at before n l)
  ];
  here = held_at after place early ∙ there;
  there = λ n other. elim (cases_lt n before.first) [
    | inl l ↦
        let also : n < after.first = omega (arith, l, first) in
        gone_at after n also ∙ sym (gone_at before n l)
    | inr l ↦
        let later : after.first ≤ n = omega (arith, l, first) in
        held_at after n later ∙ same n l other ∙ sym (held_at before n l)
  ];
} where
  place : ℕ
  place = before.first + length before.kept.items

  none : slice_get before.kept.items (before.first + length before.kept.items - before.first) ≡ None
  none = slice_get_past before.kept.items (before.first + length before.kept.items - before.first) (omega arith)

  early : after.first ≤ before.first + length before.kept.items
  early = omega (arith, first)

  there : slice_get after.kept.items (before.first + length before.kept.items - after.first) ≡ Some (arrived now request)
  there =
      let k : before.first + length before.kept.items - after.first ≡ length before.kept.items = omega (arith, first) in
      ap (slice_get after.kept.items) k ∙ ap (λ (zs : List Flight). slice_get zs (length before.kept.items)) items
      ∙ at_end before.kept.items (arrived now request)

  same : (n : ℕ) → before.first ≤ n → n ≢ before.first + length before.kept.items → slice_get after.kept.items (n - after.first) ≡ slice_get before.kept.items (n - before.first)
  same n l other =
      let apart : n - before.first ≢ length before.kept.items = λ e. other (omega (arith, e, l)) in
      ap (λ (m : ℕ). slice_get after.kept.items (n - m)) first ∙ ap (λ (zs : List Flight). slice_get zs (n - before.first)) items
      ∙ beside before.kept.items (arrived now request) (n - before.first) apart

pub moves : (before after : Flights) (number : ℕ) (from : Stage) (now : ℕ) (x y : Flight) → after.first ≡ before.first
    → after.kept.items ≡ slice_set before.kept.items (number - before.first) y → before.first ≤ number → number - before.first < length before.kept.items
    → slice_get before.kept.items (number - before.first) ≡ Some x → x.stage ≡ from → y ≡ gone_on now x → y.stage ≡ next_stage from → Moves number from now y before after
moves before after number from now x y first items l within at was gone next = record {
  was = kept_at before number l ∙ ap (option_map (λ (z : Flight). z.stage)) at ∙ ap Some was;
  is =
      let later : after.first ≤ number = omega (arith, l, first) in
      kept_at after number later ∙ ap (option_map (λ (z : Flight). z.stage)) found ∙ ap Some next;
  others = λ n other. elim (cases_lt n before.first) [
    | inl early ↦
        let yes : nat_lt n before.first ≡ true = grind (arith, nat_tests) in
        let also : nat_lt n after.first ≡ true = ap (nat_lt n) first ∙ yes in
        rw (yes, also) refl
    | inr late ↦
        let later : after.first ≤ n = omega (arith, late, first) in
        kept_at after n later ∙ ap (option_map (λ (z : Flight). z.stage)) (same n late other) ∙ sym (kept_at before n late)
  ];
  old = x;
  found = held_at before number l ∙ at;
  stood = was;
  gone = gone;
  stage = next;
  here =
      let later : after.first ≤ number = omega (arith, l, first) in
      inl (held_at after number later ∙ found);
  there = λ n other. elim (cases_lt n before.first) [
    | inl early ↦
        let also : n < after.first = omega (arith, early, first) in
        inr (gone_at after n also)
    | inr late ↦
        let later : after.first ≤ n = omega (arith, late, first) in
        inl (held_at after n later ∙ same n late other ∙ sym (held_at before n late))
  ];
} where
  found : slice_get after.kept.items (number - after.first) ≡ Some y
  found =
      let same : number - after.first ≡ number - before.first = ap (λ (m : ℕ). number - m) first in
      ap (λ (k : ℕ). slice_get after.kept.items k) same ∙ ap (λ (zs : List Flight). slice_get zs (number - before.first)) items
      ∙ set_here before.kept.items (number - before.first) y within

  same : (n : ℕ) → before.first ≤ n → n ≢ number → slice_get after.kept.items (n - after.first) ≡ slice_get before.kept.items (n - before.first)
  same n late other =
      let apart : n - before.first ≢ number - before.first = λ e. other (omega (arith, e, late, l)) in
      ap (λ (m : ℕ). slice_get after.kept.items (n - m)) first ∙ ap (λ (zs : List Flight). slice_get zs (n - before.first)) items
      ∙ set_there before.kept.items (number - before.first) (n - before.first) y apart

-- what stays behind a move
pub moves_stay : (a b c : Flights) (number : ℕ) (from : Stage) (now : ℕ) (flight : Flight) → Moves number from now flight a b → Stays b c → Moves number from now flight a c
moves_stay a b c number from now flight m s = record {
  was = m.was;
  is = s.stages number ∙ m.is;
  others = λ n other. s.stages n ∙ m.others n other;
  old = m.old;
  found = m.found;
  stood = m.stood;
  gone = m.gone;
  stage = m.stage;
  here = keeps_then (Some flight) (flight_at b number) (flight_at c number) m.here (s.flights number);
  there = λ n other. keeps_then (flight_at a n) (flight_at b n) (flight_at c n) (m.there n other) (s.flights n);
}
