-- When an address is that of a region, and that no engine refuses a region of another address.
use Rattle.std.proofs.Common.{◌≡◌, ◌≢◌, ℕ, suc, ◌+◌, ◌<◌, ◌≤◌, ◌==◌, ◌||◌, Bool, true, false, nat_lt, not, if◌then◌else◌, List, [], ◌∷◌, ◌++◌, length, map, Some, None, refl, sym, ap, ◌∙◌, subst, arith, inl, inr, lt-ltb, ne_eqb}
use Rattle.std.specs.Prelude.{is_some}
use Rattle.std.specs.List.{list_any, position_or_len}
use Rattle.std.proofs.lemmas.Bool.{cases_lt, le-ltb, eqb-false, or_parts}
use Rattle.std.proofs.lemmas.List.Folds.{list_any-append}
use Rattle.std.proofs.lemmas.Simd.{map-map}
use Rattle.nvme_entry.specs.declared.submission.Sqe.{Sqe}
use Rattle.nvme_entry.specs.declared.completion.Cqe.{Cqe}
use Rattle.nvme_lane.specs.View.{GetView, PutView}
use Rattle.nvme_arbiter.specs.declared.settings.Mechanism.{Mechanism}
use Rattle.nvme_admin.specs.History.{Kind, Start, Submission, Completion}
use Rattle.nvme_admin.specs.QueueTable.{region_number}
use Rattle.nvme_admin.specs.declared.bounds.TheConstants.{MAX_REGIONS, MIN_SLOTS, MAX_SLOTS}
use Rattle.nvme_admin.specs.declared.region.Region.{Region}
use Rattle.nvme_admin.specs.declared.region.AdminError.TheVariants.{Used, TooMany, Size}
use Rattle.nvme_log.specs.Rules.{sq_regions_of, cq_regions_of}
use Rattle.nvme_ctrl_log.specs.Making.{adding_fault, is_region, regions_of}
use Rattle.nvme_slots.specs.Pool.{IsNew}
use Rattle.nvme_slots.proofs.Pools.{IsNew-nil, IsNew-cons, IsNew-head, IsNew-tail, IsNew-left, IsNew-right}
use Rattle.nvme_engine.proofs.Additions.{on_regions}
use Rattle.nvme_front.specs.declared.region.SqRegion.{SqRegion}
use Rattle.nvme_front.specs.declared.state.FrontState.{FrontState}
use Rattle.nvme_front.specs.View.{is_address}
use Rattle.nvme_front.specs.inside.Room.{addresses_of}
use Rattle.nvme_front.specs.inside.State.{gets_of, rules_of, view_of}
use Rattle.nvme_front.proofs.RegionSteps.{region_of_get, region_of_put, adds_regions}
use Rattle.nvme_front.proofs.RegionLists.{rules_by, sqs_by, cqs_by, number_of_sq, number_of_cq}

-- some element of a map passes a test where some element passes it after the map
pub any_in_map : {A B : Type 0} (p : B → Bool) (f : A → B) (xs : List A) → list_any p (map f xs) ≡ list_any (λ (x : A). p (f x)) xs
any_in_map p f [] = refl
any_in_map p f (x ∷ xs) = ap (λ (b : Bool). p (f x) || b) (any_in_map p f xs)

-- the address of a submission region is that of its end
sq_address : (sqs : List SqRegion) (a : ℕ) → list_any (λ (g : GetView Sqe). g.address == a) (gets_of sqs) ≡ list_any (λ (s : SqRegion). s.end.address == a) sqs
sq_address sqs a = any_in_map (λ (g : GetView Sqe). g.address == a) (λ (s : SqRegion). s.end) sqs

-- an address is one of a front where a submission region or a completion region has it
is_address-by : (s : FrontState) (a : ℕ)
    → is_address (view_of s) a ≡ (list_any (λ (r : SqRegion). r.end.address == a) s.sqs.items || list_any (λ (p : PutView Cqe). p.address == a) s.cqs.items)
is_address-by s a = λ i. sq_address s.sqs.items a i || list_any (λ (p : PutView Cqe). p.address == a) s.cqs.items

-- a search that finds a submission region tells it
pub is_address-sq : (s : FrontState) (a : ℕ) (r : Bool) → r ≡ list_any (λ (x : SqRegion). x.end.address == a) s.sqs.items → r ≡ true → r ≡ is_address (view_of s) a
is_address-sq s a r found here =
    here ∙ sym (is_address-by s a ∙ ap (λ (b : Bool). b || list_any (λ (p : PutView Cqe). p.address == a) s.cqs.items) (sym found ∙ here))

-- where none is found, a search of the completion regions tells it
pub is_address-cq : (s : FrontState) (a : ℕ) (r q : Bool) → r ≡ list_any (λ (x : SqRegion). x.end.address == a) s.sqs.items → r ≡ false
    → q ≡ list_any (λ (p : PutView Cqe). p.address == a) s.cqs.items → q ≡ is_address (view_of s) a
is_address-cq s a r q missed none found =
    found ∙ sym (is_address-by s a ∙ ap (λ (b : Bool). b || list_any (λ (p : PutView Cqe). p.address == a) s.cqs.items) (sym missed ∙ none))

-- ---- numbers that none has
-- none of the list is a number where the test finds none, and the other way round
new_by : (a : ℕ) (xs : List ℕ) → list_any (λ (x : ℕ). x == a) xs ≡ false → IsNew a xs
new_by a [] none = IsNew-nil a
new_by a (x ∷ xs) none =
    let parts = or_parts (x == a) (list_any (λ (y : ℕ). y == a) xs) none in
    IsNew-cons a x xs (eqb-false x a parts.0) (new_by a xs parts.1)

none_by : (a : ℕ) (xs : List ℕ) → IsNew a xs → list_any (λ (x : ℕ). x == a) xs ≡ false
none_by a [] new = refl
none_by a (x ∷ xs) new = λ i. ne_eqb x a (IsNew-head a x xs new) i || none_by a xs (IsNew-tail a x xs new) i

-- an address that no region of a front has
pub address_is_new : (s : FrontState) (a : ℕ) → is_address (view_of s) a ≡ false → IsNew a (addresses_of s)
address_is_new s a none =
    let is_a : ℕ → Bool = λ x. x == a in
    new_by a (addresses_of s)
    (list_any-append is_a (map (λ (sq : SqRegion). sq.end.address) s.sqs.items) (map (λ (p : PutView Cqe). p.address) s.cqs.items)
    ∙ (λ i. any_in_map is_a (λ (sq : SqRegion). sq.end.address) s.sqs.items i || any_in_map is_a (λ (p : PutView Cqe). p.address) s.cqs.items i)
    ∙ sym (is_address-by s a) ∙ none)

-- ---- the regions of a table
-- a number is below another where their successors are
before_more : (a b : ℕ) → nat_lt (1 + a) (suc b) ≡ nat_lt a b
before_more a b = elim (cases_lt a b) [
  | inl lt ↦ lt-ltb (1 + a) (suc b) (omega arith) ∙ sym (lt-ltb a b lt)
  | inr ge ↦ le-ltb (1 + a) (suc b) (omega arith) ∙ sym (le-ltb a b ge)
]

-- where the first element passes a test, the first that passes is there; else it is one further
first_place : {A : Type 0} (p : A → Bool) (xs : List A) (b : Bool) → nat_lt (position_or_len p xs) (length xs) ≡ list_any p xs
    → nat_lt (if not b then 1 + position_or_len p xs else 0) (suc (length xs)) ≡ (b || list_any p xs)
first_place p xs true before = lt-ltb 0 (suc (length xs)) (omega arith)
first_place p xs false before = before_more (position_or_len p xs) (length xs) ∙ before

-- the first element that passes a test is in the list where some element passes it
has_first : {A : Type 0} (p : A → Bool) (xs : List A) → nat_lt (position_or_len p xs) (length xs) ≡ list_any p xs
has_first p [] = refl
has_first p (x ∷ xs) = first_place p xs (p x) (has_first p xs)

-- a number is there where its condition holds
some_if : (b : Bool) (n : ℕ) → is_some (if b then Some n else None) ≡ b
some_if true n = refl
some_if false n = refl

-- an address has a region number where some region has it
has_number : (regions : List Region) (a : ℕ) → is_some (region_number regions a) ≡ list_any (λ (r : Region). r.address == a) regions
has_number regions a =
    some_if (nat_lt (position_or_len (λ (r : Region). r.address == a) regions) (length regions)) (position_or_len (λ (r : Region). r.address == a) regions)
    ∙ has_first (λ (r : Region). r.address == a) regions

-- so a new one has none
no_number : {A : Type 0} (f : A → Region) (regions : List Region) (xs : List A) (a : ℕ) → regions ≡ map f xs → IsNew a (map (λ (x : A). (f x).address) xs) → is_some (region_number regions a) ≡ false
no_number f regions xs a are new =
    has_number regions a ∙ ap (λ (rs : List Region). list_any (λ (r : Region). r.address == a) rs) are
    ∙ any_in_map (λ (r : Region). r.address == a) f xs
    ∙ sym (any_in_map (λ (n : ℕ). n == a) (λ x. (f x).address) xs) ∙ none_by a (map (λ x. (f x).address) xs) new

-- ---- what an engine doesn't refuse
abbrev pub addresses_in : List (GetView Sqe) → List (PutView Cqe) → List ℕ
addresses_in gets puts = map (λ (g : GetView Sqe). g.address) gets ++ map (λ (p : PutView Cqe). p.address) puts

-- those of a front
pub addresses_are : (s : FrontState) → addresses_of s ≡ addresses_in (gets_of s.sqs.items) s.cqs.items
addresses_are s = ap (λ (xs : List ℕ). xs ++ map (λ (p : PutView Cqe). p.address) s.cqs.items) (sym (map-map (λ (g : GetView Sqe). g.address) (λ (x : SqRegion). x.end) s.sqs.items))

module _ (mechanism : Mechanism) (start : Start) (sizes : List ℕ) (gets : List (GetView Sqe)) (puts : List (PutView Cqe)) (a : ℕ) (new : IsNew a (addresses_in gets puts)) where
  not_region : is_region (rules_by mechanism start sizes gets puts) a ≡ false
  not_region =
      let sqs = no_number region_of_get (sq_regions_of (rules_by mechanism start sizes gets puts)) gets a (sqs_by mechanism start sizes gets puts)
      (IsNew-left a (map (λ (g : GetView Sqe). g.address) gets) (map (λ (p : PutView Cqe). p.address) puts) new) in
      let cqs = no_number region_of_put (cq_regions_of (rules_by mechanism start sizes gets puts)) puts a (cqs_by mechanism start sizes gets puts)
      (IsNew-right a (map (λ (g : GetView Sqe). g.address) gets) (map (λ (p : PutView Cqe). p.address) puts) new) in
      λ i. sqs i || cqs i

  -- a region of a new address, with a number of slots that is allowed, is taken while there are fewer than may be
  pub no_fault : (kind : Kind) (slots : ℕ) → length (regions_of kind (rules_by mechanism start sizes gets puts)) ≢ MAX_REGIONS → MIN_SLOTS ≤ slots → slots ≤ MAX_SLOTS
      → adding_fault kind a slots (rules_by mechanism start sizes gets puts) ≡ None
  no_fault kind slots room least most =
      let placing = on_regions (rules_by mechanism start sizes gets puts) (adds_regions gets puts).only in
      λ j. if is_some (placing j) then Some TooMany
      else (if not_region j then Some Used
      else (if (ne_eqb (length (regions_of kind (rules_by mechanism start sizes gets puts))) MAX_REGIONS room) j then Some TooMany
      else (if (le-ltb slots MIN_SLOTS least) j || (le-ltb MAX_SLOTS slots most) j then Some Size
      else None)))

-- ---- a region more of a front
module _ (s : FrontState) (a slots : ℕ) (other : is_address (view_of s) a ≡ false) (least : MIN_SLOTS ≤ slots) (most : slots ≤ MAX_SLOTS) where
  fits_front : (kind : Kind) → length (regions_of kind (rules_of s)) ≢ MAX_REGIONS → adding_fault kind a slots (rules_of s) ≡ None
  fits_front kind room =
      no_fault (rules_of s).mechanism (rules_of s).start (rules_of s).sizes (gets_of s.sqs.items) s.cqs.items a
      (subst (IsNew a) (addresses_are s) (address_is_new s a other)) kind slots room least most

  pub sq_not_refused : length s.sqs.items < MAX_REGIONS → adding_fault Submission a slots (rules_of s) ≡ None
  sq_not_refused few = fits_front Submission (λ full. omega (arith, few, number_of_sq s, full))

  pub cq_not_refused : length s.cqs.items < MAX_REGIONS → adding_fault Completion a slots (rules_of s) ≡ None
  cq_not_refused few = fits_front Completion (λ full. omega (arith, few, number_of_cq s, full))
