-- What a value of a line is read as, or its fault. The first fault is the answer. (profile)
use Rattle.std.specs.Prelude.{◌≡◌, ℕ, suc, ◌==◌, ◌&&◌, Bool, false, nat_le, is_some, if◌then◌else◌, List, [], ◌∷◌, Option, Some, None, ok_or, option_and_then, option_map, Result, Ok, Err}
use Rattle.std.specs.Result.{result_map_both}
use Rattle.serde_json.specs.Data.{Data, null, boolean, number, string, array, object, Members, no_members, member}
use Rattle.serde_json.specs.Find.{get, as_number, as_u64}
use Rattle.nvme_audit_text.specs.declared.fault.Field.{Field}
use Rattle.nvme_audit_text.specs.declared.fault.LineFault.{LineFault}
use Rattle.nvme_audit_text.specs.declared.fault.LineFault.TheVariants.{Missing, Bad, Unknown, NoMemory}
use Rattle.nvme_audit_text.specs.Fields.{text_of}

-- one step after another
infixl 10 ◌>>=◌
abbrev pub ◌>>=◌ : {A B : Type 0} → Result A LineFault → (A → Result B LineFault) → Result B LineFault
(Ok x) >>= f = f x
(Err e) >>= f = Err e

infixl 10 ◌>>◌
abbrev pub ◌>>◌ : {A B : Type 0} → Result A LineFault → Result B LineFault → Result B LineFault
(Ok x) >> r = r
(Err e) >> r = Err e

-- What a function answered is what reading gives, unless it is out of memory.
abbrev pub Fails : {Y : Type 0} → LineFault → Result Y LineFault → Type 0
Fails NoMemory reading = Unit {0}
Fails e reading = reading ≡ Err e

abbrev pub Gives : {Y : Type 0} → Result Y LineFault → Result Y LineFault → Type 0
Gives (Ok x) reading = reading ≡ Ok x
Gives (Err e) reading = Fails e reading

-- an answer with its value seen by f
abbrev pub seen_by : {X Y : Type 0} → (X → Y) → Result X LineFault → Result Y LineFault
seen_by f r = result_map_both f (λ e. e) r

-- a name that begins with x_ is of a field that is passed over
abbrev pub is_extra : List ℕ → Bool
is_extra [] = false
is_extra (x ∷ []) = false
is_extra (x ∷ y ∷ rest) = (x == 120) && (y == 95)

-- how many members an object has, but those that are passed over. An object has each name once
abbrev pub member_count : Members → ℕ
member_count no_members = 0
member_count (member name d ms) = if is_extra name then member_count ms else suc (member_count ms)

-- and a value that is no object has none
abbrev pub field_count : Data → ℕ
field_count null = 0
field_count (boolean b) = 0
field_count (number n) = 0
field_count (string s) = 0
field_count (array ds) = 0
field_count (object ms) = member_count ms

-- a line that has this many known fields has no other
abbrev pub only : ℕ → Data → Result (Unit {0}) LineFault
only count d = if field_count d == count then Ok tt else Err Unknown

-- 1 where a field is there
abbrev pub one_at : Field → Data → ℕ
one_at field d = if is_some (get (text_of field) d) then 1 else 0

-- the value of a field that the line has to have
abbrev pub value_at : Field → Data → Result Data LineFault
value_at field d = ok_or (get (text_of field) d) (Missing field)

-- a whole number up to a highest
abbrev pub small : ℕ → Option ℕ → Option ℕ
small most None = None
small most (Some n) = if nat_le n most then Some n else None

abbrev pub whole : ℕ → Data → Option ℕ
whole most d = small most (option_and_then as_u64 (as_number d))

-- the number of a field
unfoldable pub number_at : Field → ℕ → Data → Result ℕ LineFault
number_at field most d = value_at field d >>= (λ v. ok_or (whole most v) (Bad field))

-- the same where it may be missing
abbrev pub number_from : Field → ℕ → Option Data → Result (Option ℕ) LineFault
number_from field most None = Ok None
number_from field most (Some v) = ok_or (option_map (λ n. Some n) (whole most v)) (Bad field)

unfoldable pub maybe_at : Field → ℕ → Data → Result (Option ℕ) LineFault
maybe_at field most d = number_from field most (get (text_of field) d)

-- a number from 1 on
abbrev pub at_least_one : Field → Option ℕ → Result (Unit {0}) LineFault
at_least_one field None = Ok tt
at_least_one field (Some n) = if n == 0 then Err (Bad field) else Ok tt
