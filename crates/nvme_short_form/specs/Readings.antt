-- What a value of a short workload file is read as, or its fault at a place. The first fault is the answer. (profile)
use Rattle.std.specs.Prelude.{◌≡◌, ℕ, suc, ◌+◌, pos, ℤ, Bool, true, ◌&&◌, nat_le, nat_eq, if◌then◌else◌, List, Option, Some, None, ok_or, Result, Ok, Err}
use Rattle.std.specs.List.{list_any}
use Rattle.std.specs.Cmp.Lexicographic.{pointwise}
use Rattle.std.specs.Result.{result_map_both}
use Rattle.toml.specs.Data.{Data, Items, no_items, item, Members, no_members, member, get_member, as_integer, as_array, as_table}
use Rattle.nvme_short_form.specs.declared.key.Key.{Key}
use Rattle.nvme_short_form.specs.declared.place.Place.{Place}
use Rattle.nvme_short_form.specs.declared.error.Fault.TheVariants.{Missing, Bad, Unknown}
use Rattle.nvme_short_form.specs.declared.error.ShortError.{ShortError}
use Rattle.nvme_short_form.specs.declared.error.ShortError.TheVariants.{At, NoMemory}
use Rattle.nvme_short_form.specs.Keys.{text_of}

-- one step after another
infixl 10 ◌>>=◌
abbrev pub ◌>>=◌ : {A B : Type 0} → Result A ShortError → (A → Result B ShortError) → Result B ShortError
(Ok x) >>= f = f x
(Err e) >>= f = Err e

infixl 10 ◌>>◌
abbrev pub ◌>>◌ : {A B : Type 0} → Result A ShortError → Result B ShortError → Result B ShortError
(Ok x) >> r = r
(Err e) >> r = Err e

-- What a function answered is what reading gives. Only that memory was refused may come in its place.
abbrev pub Fails : {Y : Type 0} → ShortError → Result Y ShortError → Type 0
Fails NoMemory reading = Unit {0}
Fails (At place fault) reading = reading ≡ Err (At place fault)

abbrev pub Gives : {Y : Type 0} → Result Y ShortError → Result Y ShortError → Type 0
Gives (Ok x) reading = reading ≡ Ok x
Gives (Err e) reading = Fails e reading

-- an answer with its value seen by f
abbrev pub seen : {X Y : Type 0} → (X → Y) → Result X ShortError → Result Y ShortError
seen f r = result_map_both f (λ e. e) r

-- ---- keys

-- the name is that of one of the keys
abbrev pub is_known : List Key → List ℕ → Bool
is_known keys name = list_any (λ k. pointwise nat_eq (text_of k) name) keys

-- every key of the table is one of these
abbrev pub all_known : List Key → Members → Bool
all_known keys no_members = true
all_known keys (member name d ms) = is_known keys name && all_known keys ms

unfoldable pub only_keys : Place → List Key → Members → Result (Unit {0}) ShortError
only_keys place keys table = if all_known keys table then Ok tt else Err (At place Unknown)

-- the value at a key, where the table has it
abbrev pub value_in : Key → Members → Option Data
value_in key table = get_member (text_of key) table

-- the value at a key that the table has to have
abbrev pub value_at : Place → Key → Members → Result Data ShortError
value_at place key table = ok_or (value_in key table) (At place (Missing key))

-- ---- values

-- a value of a wrong kind, or out of its range
abbrev pub bad : {A : Type 0} → Place → Key → Result A ShortError
bad place key = Err (At place (Bad key))

-- how many items an array has
abbrev pub item_count : Items → ℕ
item_count no_items = 0
item_count (item d ds) = suc (item_count ds)

-- a whole number from low to high
abbrev pub number_in : Place → Key → ℕ → ℕ → Option ℤ → Result ℕ ShortError
number_in place key low high (Some (pos n)) = if nat_le low n && nat_le n high then Ok n else bad place key
number_in place key low high _ = bad place key

abbrev pub whole : Place → Key → ℕ → ℕ → Data → Result ℕ ShortError
whole place key low high d = number_in place key low high (as_integer d)

abbrev pub array_of : Place → Key → Data → Result Items ShortError
array_of place key d = ok_or (as_array d) (At place (Bad key))

abbrev pub table_of : Place → Key → Data → Result Members ShortError
table_of place key d = ok_or (as_table d) (At place (Bad key))

-- the items in turn with their indices, each read after what those before it made
unfoldable pub in_turn : {A : Type 0} → (ℕ → A → Data → Result A ShortError) → ℕ → A → Items → Result A ShortError
in_turn next index before no_items = Ok before
in_turn next index before (item d ds) = next index before d >>= (λ after. in_turn next (index + 1) after ds)

-- the number at a key that the table has to have
unfoldable pub number_at : Place → Key → ℕ → ℕ → Members → Result ℕ ShortError
number_at place key low high table = value_at place key table >>= whole place key low high

-- the number at a key that the table may leave out
abbrev pub optional_in : Place → Key → ℕ → ℕ → ℕ → Option Data → Result ℕ ShortError
optional_in place key default low high None = Ok default
optional_in place key default low high (Some d) = whole place key low high d

unfoldable pub number_or : Place → Key → ℕ → ℕ → ℕ → Members → Result ℕ ShortError
number_or place key default low high table = optional_in place key default low high (value_in key table)
