-- Commands that wait for a slot of the ring.
use Rattle.std.proofs.Common.{◌≡◌, ◌≢◌, ◌∙◌, ◌<◌, ◌≤◌, ℕ, suc, ◌+◌, ◌-◌, Bool, true, false, cond, not, nat_le, nat_lt, List, [], ◌∷◌, length, Option, Some, None, option_map, refl, sym, ap, arith, inl, inr}
use Rattle.std.specs.Prelude.{count_by, slice_get, slice_set, unwrap_or}
use Rattle.std.proofs.lemmas.Bool.{cases_eq, cases_lt}
use Rattle.std.proofs.lemmas.Bool.Decides.{nat_tests}
use Rattle.std.proofs.lemmas.List.{length-set}
use Rattle.std.proofs.lemmas.List.Sums.{sum_by-cons}
use Rattle.std.proofs.lemmas.Option.{slice_get_within}
use Rattle.nvme_simulation.specs.Ranks.{next_stage}
use Rattle.nvme_simulation.specs.Rings.{NoneWaits, submitted_in}
use Rattle.nvme_simulation.specs.Stages.{stage_at}
use Rattle.nvme_simulation.specs.Waiting.{waits, waits_at}
use Rattle.nvme_simulation.specs.declared.flight.Flight.{Flight}
use Rattle.nvme_simulation.specs.declared.flight.Flights.{Flights}
use Rattle.nvme_simulation.specs.declared.flight.Stage.{Stage}
use Rattle.nvme_simulation.specs.declared.flight.Stage.TheVariants.{Came, Submitted, Fetched, Picked, Started, Done}
use Rattle.nvme_simulation.proofs.Moves.{kept_at, set_here, set_there}

-- commands from a number on wait
abbrev Ordered : (first next : ℕ) → List Flight → Type 0
Ordered first next kept = (k : ℕ) → k < length kept → waits_at kept k ≡ nat_le next (first + k)

waits_if : (s : Stage) → s ≢ Came → waits s ≡ false
waits_if Came other = absurd (other refl)
waits_if Submitted other = refl
waits_if Fetched other = refl
waits_if Picked other = refl
waits_if Started other = refl
waits_if Done other = refl

waits_next : (s : Stage) → waits (next_stage s) ≡ false
waits_next Came = refl
waits_next Submitted = refl
waits_next Fetched = refl
waits_next Picked = refl
waits_next Started = refl
waits_next Done = refl

came_if : (s : Stage) → waits s ≡ true → s ≡ Came
came_if Came is = refl
came_if Submitted is = absurd (cc is)
came_if Fetched is = absurd (cc is)
came_if Picked is = absurd (cc is)
came_if Started is = absurd (cc is)
came_if Done is = absurd (cc is)

waits_in : (xs : List Flight) (k : ℕ) (x : Flight) → slice_get xs k ≡ Some x → waits_at xs k ≡ waits x.stage
waits_in xs k x at = ap (λ (o : Option Flight). unwrap_or (option_map (λ (y : Flight). waits y.stage) o) false) at

-- the first one that waits is at the stage that is submitted
pub first_waits : (first next : ℕ) (xs : List Flight) (k : ℕ) (x : Flight) → Ordered first next xs → next ≡ first + k → k < length xs → slice_get xs k ≡ Some x
    → x.stage ≡ Came
first_waits first next xs k x ordered is l at =
    let yes : nat_le next (first + k) ≡ true = grind (arith, nat_tests) in
    came_if x.stage (sym (waits_in xs k x at) ∙ ordered k l ∙ yes)

-- one that was submitted goes on
pub ordered_on : (first next : ℕ) (xs : List Flight) (k : ℕ) (x y : Flight) → Ordered first next xs → slice_get xs k ≡ Some x → k < length xs → x.stage ≢ Came
    → y.stage ≡ next_stage x.stage → Ordered first next (slice_set xs k y)
ordered_on first next xs k x y ordered at within other next_is j l = elim (cases_eq j k) [
  | inl same ↦
      let here : waits_at (slice_set xs k y) j ≡ waits y.stage =
      ap (waits_at (slice_set xs k y)) same ∙ waits_in (slice_set xs k y) k y (set_here xs k y within) in
      let was : waits_at xs j ≡ waits x.stage = ap (waits_at xs) same ∙ waits_in xs k x at in
      here ∙ ap waits next_is ∙ waits_next x.stage ∙ sym (waits_if x.stage other) ∙ sym was ∙ ordered j (omega (arith, l, length-set xs k y))
  | inr apart ↦
      ap (λ (o : Option Flight). unwrap_or (option_map (λ (z : Flight). waits z.stage) o) false) (set_there xs k j y apart) ∙ ordered j (omega (arith, l, length-set xs k y))
]

-- the first one that waits is submitted
pub ordered_more : (first next : ℕ) (xs : List Flight) (k : ℕ) (x y : Flight) → Ordered first next xs → next ≡ first + k → k < length xs
    → y.stage ≡ next_stage x.stage → Ordered first (next + 1) (slice_set xs k y)
ordered_more first next xs k x y ordered is within next_is j l = elim (cases_eq j k) [
  | inl same ↦
      let here : waits_at (slice_set xs k y) j ≡ waits y.stage =
      ap (waits_at (slice_set xs k y)) same ∙ waits_in (slice_set xs k y) k y (set_here xs k y within) in
      let no : nat_le (next + 1) (first + j) ≡ false = grind (arith, nat_tests) in
      here ∙ ap waits next_is ∙ waits_next x.stage ∙ sym no
  | inr apart ↦
      let same : nat_le next (first + j) ≡ nat_le (next + 1) (first + j) = grind (arith, nat_tests) in
      ap (λ (o : Option Flight). unwrap_or (option_map (λ (z : Flight). waits z.stage) o) false) (set_there xs k j y apart)
      ∙ ordered j (omega (arith, l, length-set xs k y)) ∙ same
]

-- as many were submitted as came before the first one that waits
counted : (xs : List Flight) (first next : ℕ) → first ≤ next → next ≤ first + length xs → Ordered first next xs → first + count_by (λ x. not (waits x.stage)) xs ≡ next
counted [] first next behind within ordered = omega (arith, behind, within)
counted (x ∷ xs) first next behind within ordered = elim (cases_eq first next) [
  | inl same ↦
      let yes : nat_le next (first + 0) ≡ true = grind (arith, nat_tests) in
      let one : ◌≡◌ {A = ℕ} (cond (not (waits x.stage)) 1 0) 0 = ap (λ (b : Bool). cond (not b) 1 0) (ordered 0 (omega arith) ∙ yes) in
      let rest : (k : ℕ) → k < length xs → waits_at xs k ≡ nat_le (first + 1) (first + 1 + k) = λ k l.
      let all : nat_le next (first + suc k) ≡ nat_le (first + 1) (first + 1 + k) = grind (arith, nat_tests) in
      ordered (suc k) (omega (arith, l)) ∙ all in
      let last : first + 1 + count_by (λ y. not (waits y.stage)) xs ≡ first + 1 = counted xs (first + 1) (first + 1) (omega arith) (omega arith) rest in
      omega (arith, sum_by-cons (λ (y : Flight). cond (not (waits y.stage)) 1 0) x xs, one, last, same)
  | inr other ↦
      let no : nat_le next (first + 0) ≡ false = grind (arith, nat_tests) in
      let one : ◌≡◌ {A = ℕ} (cond (not (waits x.stage)) 1 0) 1 = ap (λ (b : Bool). cond (not b) 1 0) (ordered 0 (omega arith) ∙ no) in
      let rest : (k : ℕ) → k < length xs → waits_at xs k ≡ nat_le next (first + 1 + k) = λ k l.
      let all : nat_le next (first + suc k) ≡ nat_le next (first + 1 + k) = grind (arith, nat_tests) in
      ordered (suc k) (omega (arith, l)) ∙ all in
      let last : first + 1 + count_by (λ y. not (waits y.stage)) xs ≡ next =
      counted xs (first + 1) next (omega (arith, behind, other)) (omega (arith, within)) rest in
      omega (arith, sum_by-cons (λ (y : Flight). cond (not (waits y.stage)) 1 0) x xs, one, last)
]

pub submitted_is : (f : Flights) → f.next ≡ submitted_in f
submitted_is f = sym (counted f.kept.items f.first f.next f.behind f.within f.ordered)

-- where the next one isn't kept, none waits
pub none_waits : (f : Flights) → f.first + length f.kept.items ≤ f.next → NoneWaits f
none_waits f past n is = elim (cases_lt n f.first) [
  | inl early ↦
      let yes : nat_lt n f.first ≡ true = grind (arith, nat_tests) in
      let done : stage_at f n ≡ Some Done = rw yes refl in
      absurd (cc (sym done ∙ is))
  | inr late ↦ at (slice_get f.kept.items (n - f.first)) refl late
] where
  at : (o : Option Flight) → slice_get f.kept.items (n - f.first) ≡ o → f.first ≤ n → ⊥
  at None e late = absurd (cc (sym (kept_at f n late ∙ ap (option_map (λ (x : Flight). x.stage)) e) ∙ is))
  at (Some x) e late =
      let l : n - f.first < length f.kept.items = slice_get_within f.kept.items (n - f.first) x e in
      let no : nat_le f.next (f.first + (n - f.first)) ≡ false = grind (arith, nat_tests) in
      let none : waits x.stage ≡ false = sym (waits_in f.kept.items (n - f.first) x e) ∙ f.ordered (n - f.first) l ∙ no in
      let came : Some x.stage ≡ Some Came = sym (kept_at f n late ∙ ap (option_map (λ (x : Flight). x.stage)) e) ∙ is in
      absurd (cc (sym none ∙ ap (λ (o : Option Stage). unwrap_or (option_map waits o) false) came))
