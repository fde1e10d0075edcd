-- What a value of a TOML document is read as, or its flaw and the table where it is. The first flaw is the answer. (profile)
use Rattle.std.specs.Prelude.{◌≡◌, ℕ, suc, ◌+◌, pos, ℤ, Bool, true, ◌&&◌, nat_le, nat_eq, if◌then◌else◌, List, Option, Some, None, ok_or, Result, Ok, Err}
use Rattle.std.specs.List.{list_any}
use Rattle.std.specs.Cmp.Lexicographic.{pointwise}
use Rattle.std.specs.Result.{result_map_both}
use Rattle.toml.specs.Data.{Data, Items, no_items, item, Members, no_members, member, get_member, as_integer, as_array, as_table}
use Rattle.nvme_workload.specs.declared.key.Key.{Key}
use Rattle.nvme_workload.specs.declared.error.WorkloadError.{WorkloadError}
use Rattle.nvme_workload.specs.declared.error.WorkloadError.TheVariants as fault
use Rattle.nvme_workload.specs.declared.flaw.Flaw.TheVariants.{Missing, Bad, Unknown}
use Rattle.nvme_workload.specs.declared.flaw.PlanError.{PlanError}
use Rattle.nvme_workload.specs.declared.flaw.PlanError.TheVariants.{At, NoMemory}
use Rattle.nvme_workload.specs.declared.place.Spot.{Spot}
use Rattle.nvme_workload.specs.Keys.{text_of}

-- one step after another
infixl 10 ◌>>=◌
abbrev pub ◌>>=◌ : {A B : Type 0} → Result A PlanError → (A → Result B PlanError) → Result B PlanError
(Ok x) >>= f = f x
(Err e) >>= f = Err e

infixl 10 ◌>>◌
abbrev pub ◌>>◌ : {A B : Type 0} → Result A PlanError → Result B PlanError → Result B PlanError
(Ok x) >> r = r
(Err e) >> r = Err e

-- What a function answered is what reading gives. Only that memory was refused may come in its place.
abbrev pub Fails : {Y : Type 0} → WorkloadError → Result Y WorkloadError → Type 0
Fails fault.NoMemory reading = Unit {0}
Fails e reading = reading ≡ Err e

abbrev pub Gives : {Y : Type 0} → Result Y WorkloadError → Result Y WorkloadError → Type 0
Gives (Ok x) reading = reading ≡ Ok x
Gives (Err e) reading = Fails e reading

-- and so with the place of a flaw
abbrev pub FailsAt : {Y : Type 0} → PlanError → Result Y PlanError → Type 0
FailsAt NoMemory reading = Unit {0}
FailsAt (At spot flaw) reading = reading ≡ Err (At spot flaw)

abbrev pub GivesAt : {Y : Type 0} → Result Y PlanError → Result Y PlanError → Type 0
GivesAt (Ok x) reading = reading ≡ Ok x
GivesAt (Err e) reading = FailsAt e reading

-- an answer with its value seen by f
abbrev pub seen : {X Y E : Type 0} → (X → Y) → Result X E → Result Y E
seen f r = result_map_both f (λ e. e) r

-- ---- keys

-- the name is that of one of the keys
abbrev pub is_known : List Key → List ℕ → Bool
is_known keys name = list_any (λ k. pointwise nat_eq (text_of k) name) keys

-- every key of the table is one of these
abbrev pub all_known : List Key → Members → Bool
all_known keys no_members = true
all_known keys (member name d ms) = is_known keys name && all_known keys ms

unfoldable pub only_keys : Spot → List Key → Members → Result (Unit {0}) PlanError
only_keys spot keys table = if all_known keys table then Ok tt else Err (At spot Unknown)

-- the value at a key that the table has to have
abbrev pub value_at : Spot → Key → Members → Result Data PlanError
value_at spot key table = ok_or (get_member (text_of key) table) (At spot (Missing key))

-- ---- values

-- how many items an array has
abbrev pub item_count : Items → ℕ
item_count no_items = 0
item_count (item d ds) = suc (item_count ds)

-- a whole number from low to high
abbrev pub number_in : Spot → Key → ℕ → ℕ → Option ℤ → Result ℕ PlanError
number_in spot key low high (Some (pos n)) = if nat_le low n && nat_le n high then Ok n else Err (At spot (Bad key))
number_in spot key low high _ = Err (At spot (Bad key))

abbrev pub whole : Spot → Key → ℕ → ℕ → Data → Result ℕ PlanError
whole spot key low high d = number_in spot key low high (as_integer d)

abbrev pub array_of : Spot → Key → Data → Result Items PlanError
array_of spot key d = ok_or (as_array d) (At spot (Bad key))

abbrev pub table_of : Spot → Key → Data → Result Members PlanError
table_of spot key d = ok_or (as_table d) (At spot (Bad key))

-- the items in turn with their indices, each read after what those before it made
unfoldable pub in_turn : {A : Type 0} → (ℕ → A → Data → Result A PlanError) → ℕ → A → Items → Result A PlanError
in_turn next index before no_items = Ok before
in_turn next index before (item d ds) = next index before d >>= (λ after. in_turn next (index + 1) after ds)

-- the number at a key that the table has to have
unfoldable pub number_at : Spot → Key → ℕ → ℕ → Members → Result ℕ PlanError
number_at spot key low high table = value_at spot key table >>= whole spot key low high

-- the number at a key that the table may leave out
abbrev pub optional_in : Spot → Key → ℕ → ℕ → ℕ → Option Data → Result ℕ PlanError
optional_in spot key default low high None = Ok default
optional_in spot key default low high (Some d) = whole spot key low high d

unfoldable pub number_or : Spot → Key → ℕ → ℕ → ℕ → Members → Result ℕ PlanError
number_or spot key default low high table = optional_in spot key default low high (get_member (text_of key) table)
