-- What a value of a simulation file is read as, where it has no fault. (profile)
use Rattle.std.specs.Prelude.{◌≡◌, ℕ, suc, ◌+◌, pos, ℤ, Bool, true, ◌&&◌, nat_le, nat_eq, if◌then◌else◌, List, Option, Some, None, Result, Ok, Err}
use Rattle.std.specs.List.{list_any}
use Rattle.std.specs.Cmp.Lexicographic.{pointwise}
use Rattle.std.specs.Result.{result_map_both}
use Rattle.toml.specs.Data.{Data, Items, no_items, item, Members, no_members, member, get_member, as_integer}
use Rattle.nvme_model_form.specs.declared.key.Key.{Key}
use Rattle.nvme_model_form.specs.declared.error.ModelError.{ModelError}
use Rattle.nvme_model_form.specs.declared.error.ModelError.TheVariants.{At, Settings, NoMemory}
use Rattle.nvme_model_form.specs.Keys.{text_of}

-- one step after another
infixl 10 ◌>>=◌
abbrev pub ◌>>=◌ : {A B : Type 0} → Option A → (A → Option B) → Option B
(Some x) >>= f = f x
None >>= f = None

infixl 10 ◌>>◌
abbrev pub ◌>>◌ : {A B : Type 0} → Option A → Option B → Option B
(Some x) >> r = r
None >> r = None

-- What a function answered is what reading gives, and it refuses only where reading gives nothing. Only that memory was
-- refused may come in place of either.
abbrev pub Refuses : {Y : Type 0} → ModelError → Option Y → Type 0
Refuses NoMemory reading = Unit {0}
Refuses (At place target fault) reading = reading ≡ None
Refuses (Settings place fault) reading = reading ≡ None

abbrev pub Means : {Y : Type 0} → Result Y ModelError → Option Y → Type 0
Means (Ok x) reading = reading ≡ Some x
Means (Err e) reading = Refuses e reading

-- an answer with its value seen by f
abbrev pub seen : {X Y : Type 0} → (X → Y) → Result X ModelError → Result Y ModelError
seen f r = result_map_both f (λ e. e) r

-- a value that is accepted
abbrev pub accepted : {A E : Type 0} → Result A E → Option A
accepted (Ok x) = Some x
accepted (Err e) = None

-- ---- keys

-- the name is that of one of the keys
abbrev pub is_known : List Key → List ℕ → Bool
is_known keys name = list_any (λ k. pointwise nat_eq (text_of k) name) keys

-- every key of the table is one of these
abbrev pub all_known : List Key → Members → Bool
all_known keys no_members = true
all_known keys (member name d ms) = is_known keys name && all_known keys ms

unfoldable pub only_keys : List Key → Members → Option (Unit {0})
only_keys keys table = if all_known keys table then Some tt else None

-- the value at a key, where the table has it
abbrev pub value_in : Key → Members → Option Data
value_in key table = get_member (text_of key) table

-- ---- values

-- how many items an array has
abbrev pub item_count : Items → ℕ
item_count no_items = 0
item_count (item d ds) = suc (item_count ds)

-- a whole number from low to high
abbrev pub number_in : ℕ → ℕ → Option ℤ → Option ℕ
number_in low high (Some (pos n)) = if nat_le low n && nat_le n high then Some n else None
number_in low high _ = None

abbrev pub whole : ℕ → ℕ → Data → Option ℕ
whole low high d = number_in low high (as_integer d)

-- the number at a key that the table may leave out
abbrev pub optional_number : ℕ → ℕ → ℕ → Option Data → Option ℕ
optional_number default low high None = Some default
optional_number default low high (Some d) = whole low high d

unfoldable pub number_or : Key → ℕ → ℕ → ℕ → Members → Option ℕ
number_or key default low high table = optional_number default low high (value_in key table)

-- the items in turn with their indices, each read after what those before it made
unfoldable pub in_turn : {A : Type 0} → (ℕ → A → Data → Option A) → ℕ → A → Items → Option A
in_turn next index before no_items = Some before
in_turn next index before (item d ds) = next index before d >>= (λ after. in_turn next (index + 1) after ds)
