-- A value at a key of the document of a simulation file. (profile)
use Rattle.std.specs.Prelude.{ℕ, zero, suc, pos, ◌-◌, ◌==◌, ◌&&◌, Bool, nat_lt, if◌then◌else◌, List, [], ◌∷◌, length, codes, Option, Some, None, option_map}
use Rattle.std.specs.Borrow.{Bor}
use Rattle.std.specs.Char.{is_ascii_digit}
use Rattle.std.specs.List.{after_first, before_first, list_all, position_or_len, slice_split}
use Rattle.std.specs.Ordering.{nat_cmp, match_ordering}
use Rattle.std.specs.Cmp.Lexicographic.{slice_cmp}
use Rattle.std.specs.Option.{option_and_then}
use Rattle.std.specs.Str.{bytes_eq}
use Rattle.std.specs.Str.Parse.{digits_value, without_leading_plus}
use Rattle.toml.specs.Data.{Data, string, integer, array, table, Items, no_items, item, Members, no_members, member, as_table, get_member, get_item, same_key}
use Rattle.nvme_points.specs.declared.axis.Axis.{Axis}

abbrev pub Text : Type 0
Text = List ℕ

-- ---- what a value of a sweep is in a document

-- each of these is a digit
abbrev pub are_digits : Text → Bool
are_digits text = list_all is_ascii_digit text

-- the number that digits write, one or more, where it is below a limit
abbrev pub number_below : ℕ → Text → Option ℕ
number_below limit digits =
    if nat_lt 0 (length digits) && (are_digits digits && nat_lt (digits_value 10 digits) limit) then Some (digits_value 10 digits) else None

-- a whole number of at most 63 bits
abbrev pub number_in : Text → Option ℕ
number_in digits = number_below 0x8000_0000_0000_0000 digits

-- the parts of a text around the first of these characters
abbrev pub cut : ℕ → Text → Option (Text × Text)
cut c text =
    if nat_lt (position_or_len (λ b. b == c) text) (length text) then Some (before_first (λ b. b == c) text, after_first (λ b. b == c) text)
    else None

-- the table of three weights
abbrev pub weights_table : (high medium low : ℕ) → Data
weights_table high medium low =
    table (member (codes "high") (integer (pos high)) (member (codes "low") (integer (pos low)) (member (codes "medium") (integer (pos medium)) no_members)))

abbrev pub weights_of : (high medium low : Option ℕ) → Option Data
weights_of None medium low = None
weights_of (Some high) None low = None
weights_of (Some high) (Some medium) None = None
weights_of (Some high) (Some medium) (Some low) = Some (weights_table high medium low)

abbrev pub weights_behind : Text → Option (Text × Text) → Option Data
weights_behind high None = None
weights_behind high (Some (medium, low)) = weights_of (number_in high) (number_in medium) (number_in low)

abbrev pub weights_by_parts : Option (Text × Text) → Option Data
weights_by_parts None = None
weights_by_parts (Some (high, rest)) = weights_behind high (cut 58 rest)

-- high, medium and low, with colons between them
abbrev pub weights_in : Text → Option Data
weights_in text = weights_by_parts (cut 58 text)

-- a whole number where it is written in digits, and else a text
abbrev pub plain : Text → Option Data
plain text = if are_digits text then option_map (λ n. integer (pos n)) (number_in text) else Some (string text)

-- what a text is as the value of a key
abbrev pub value_of : (key text : Text) → Option Data
value_of key text = if bytes_eq key (codes "weights") then weights_in text else plain text

-- ---- a value at a key

-- the names of a key, which points part
abbrev pub names_of : Text → List Text
names_of key = slice_split (λ b. b == 46) key

-- members with a value at a new key, at its place in the order, or in the place of what a key has
abbrev pub insert_member : Text → Data → Members → Members
insert_member k d no_members = member k d no_members
insert_member k d (member l e ms) = match_ordering (slice_cmp nat_cmp k l) (member k d (member l e ms)) (member l d ms) (member l e (insert_member k d ms))

-- members with another value at a key that they have
abbrev pub set_member : Text → Data → Members → Members
set_member k d no_members = no_members
set_member k d (member l e ms) = if same_key k l then member l d ms else member l e (set_member k d ms)

-- items with another one at an index that they have
abbrev pub set_item : ℕ → Data → Items → Items
set_item n d no_items = no_items
set_item zero d (item e ds) = item d ds
set_item (suc n) d (item e ds) = item e (set_item n d ds)

-- the index that a number from 1 on names
abbrev pub index_of_number : Option ℕ → Option ℕ
index_of_number None = None
index_of_number (Some n) = if nat_lt 0 n then Some (n - 1) else None

abbrev pub index_named : Text → Option ℕ
index_named name = index_of_number (number_below 0x1_0000_0000_0000_0000 (without_leading_plus name))

-- a change of a value, which may be none
abbrev pub changed : (Data → Option Data) → Option Data → Option Data
changed change None = None
changed change (Some d) = change d

-- the change of an array's item at an index
abbrev pub put_in_items : Option ℕ → (Data → Option Data) → Items → Option Data
put_in_items None change ds = None
put_in_items (Some index) change ds = option_map (λ d. array (set_item index d ds)) (changed change (get_item index ds))

-- the change of what a name leads to: what a table has there, or the item of an array of this number, from 1 on
abbrev pub put_through : Text → (Data → Option Data) → Data → Option Data
put_through name change (table ms) = option_map (λ d. table (set_member name d ms)) (changed change (get_member name ms))
put_through name change (array ds) = put_in_items (index_named name) change ds
put_through name change _ = None

-- a value at the last name, in a table
abbrev pub put_last : Text → Data → Data → Option Data
put_last name new (table ms) = Some (table (insert_member name new ms))
put_last name new _ = None

-- a value at the end of a path of names: the tables and items before it have to be there
unfoldable pub put_at : List Text → Data → Data → Option Data
put_at [] new old = None
put_at (name ∷ []) new old = put_last name new old
put_at (name ∷ next ∷ names) new old = put_through name (put_at (next ∷ names) new) old

-- a document with the value at a key that a text says
abbrev pub put_said : (key : Text) → Option Data → Members → Option Members
put_said key None file = None
put_said key (Some new) file = put_table (put_at (names_of key) new (table file))
  where
    put_table : Option Data → Option Members
    put_table None = None
    put_table (Some d) = as_table d

abbrev pub put_value : (key text : Text) → Members → Option Members
put_value key text file = put_said key (value_of key text) file

-- ---- the values of a sweep's keys

-- the load is no key of a file
abbrev pub is_load : Axis → Bool
is_load axis = bytes_eq axis.key.now (codes "load")

-- a document with a value at a key of a sweep
abbrev pub put_one : Axis → Text → Members → Option Members
put_one axis value file = if is_load axis then Some file else put_value axis.key.now value file

-- with a value at each key, one after another
abbrev pub put_all : List Axis → List (Bor Text) → Members → Option Members
put_all [] values file = Some file
put_all (axis ∷ axes) [] file = Some file
put_all (axis ∷ axes) (value ∷ values) file = option_and_then (put_all axes values) (put_one axis value.now file)

-- the load among the values
abbrev pub load_among : List Axis → List (Bor Text) → Option Text
load_among [] values = None
load_among (axis ∷ axes) [] = None
load_among (axis ∷ axes) (value ∷ values) = if is_load axis then Some value.now else load_among axes values
