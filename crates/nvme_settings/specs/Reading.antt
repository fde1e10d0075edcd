-- How words say the settings of the Arbitration feature. (profile)
use Rattle.std.specs.Prelude.{ℕ, ◌-◌, ◌==◌, ◌&&◌, Bool, true, nat_lt, nat_le, if◌then◌else◌, List, [], ◌∷◌, length, Option, Some, None, Result, Ok, Err, codes}
use Rattle.std.specs.Char.{digit_value}
use Rattle.std.specs.Option.{option_map_or}
use Rattle.std.specs.List.{after_first, before_first, position_or_len}
use Rattle.std.specs.Str.{bytes_eq}
use Rattle.std.specs.Str.Parse.{digits_value}
use Rattle.nvme_arbiter.specs.Settings.{ArbitrationFields, cdw11_of}
use Rattle.nvme_settings.specs.declared.reading.SettingsFault.{SettingsFault}
use Rattle.nvme_settings.specs.declared.reading.WeightFields.{WeightFields}
use Rattle.nvme_settings.specs.declared.reading.SettingsFault.TheVariants as fault

abbrev pub Text : Type 0
Text = List ℕ

-- each of these is a digit in a radix
abbrev pub are_digits : ℕ → Text → Bool
are_digits radix [] = true
are_digits radix (c ∷ cs) = nat_lt (digit_value c) radix && are_digits radix cs

-- one digit or more, and the number that they write has at most 32 bits
abbrev pub is_number : ℕ → Text → Bool
is_number radix digits = nat_lt 0 (length digits) && (are_digits radix digits && nat_lt (digits_value radix digits) 0x1_0000_0000)

-- the number that digits write
abbrev pub number_in : ℕ → Text → Option ℕ
number_in radix digits = if is_number radix digits then Some (digits_value radix digits) else None

-- the parts of a text around the first of these characters
abbrev pub cut : ℕ → Text → Option (Text × Text)
cut c text =
    if nat_lt (position_or_len (λ b. b == c) text) (length text) then Some (before_first (λ b. b == c) text, after_first (λ b. b == c) text)
    else None

-- hexadecimal digits stand behind `0x`
abbrev pub dword_of_parts : Text → Option (Text × Text) → Option ℕ
dword_of_parts text None = number_in 10 text
dword_of_parts text (Some (before, digits)) = if bytes_eq before (codes "0") then number_in 16 digits else None

abbrev pub dword_in : Text → Option ℕ
dword_in text = dword_of_parts text (cut 120 text)

-- the field of a burst: the power of two that it is, and 111b for no limit
abbrev pub burst_in : Text → Option ℕ
burst_in text =
    if bytes_eq text (codes "1") then Some 0
    else (if bytes_eq text (codes "2") then Some 1
    else (if bytes_eq text (codes "4") then Some 2
    else (if bytes_eq text (codes "8") then Some 3
    else (if bytes_eq text (codes "16") then Some 4
    else (if bytes_eq text (codes "32") then Some 5
    else (if bytes_eq text (codes "64") then Some 6
    else (if bytes_eq text (codes "none") then Some 7
    else None)))))))

-- the field of a weight from 1 to 256, which is 0's based
abbrev pub weight_of_number : Option ℕ → Option ℕ
weight_of_number None = None
weight_of_number (Some weight) = if nat_le 1 weight && nat_le weight 256 then Some (weight - 1) else None

abbrev pub weight_in : Text → Option ℕ
weight_in text = weight_of_number (number_in 10 text)

-- the fields of three weights
abbrev pub weights_of : Option ℕ → Option ℕ → Option ℕ → Option WeightFields
weights_of None medium low = None
weights_of (Some high) None low = None
weights_of (Some high) (Some medium) None = None
weights_of (Some high) (Some medium) (Some low) = Some (record { high = high; medium = medium; low = low })

abbrev pub weights_behind : Text → Option (Text × Text) → Option WeightFields
weights_behind high None = None
weights_behind high (Some (medium, low)) = weights_of (weight_in high) (weight_in medium) (weight_in low)

abbrev pub weights_of_parts : Option (Text × Text) → Option WeightFields
weights_of_parts None = None
weights_of_parts (Some (high, rest)) = weights_behind high (cut 58 rest)

-- high, medium and low, with colons between them
abbrev pub weights_in : Text → Option WeightFields
weights_in text = weights_of_parts (cut 58 text)

-- a burst and weights that may be left out, and are 1 then
abbrev pub optional_burst : Option Text → Result ℕ SettingsFault
optional_burst None = Ok 0
optional_burst (Some text) = option_map_or (λ code. Ok code) (burst_in text) (Err fault.Burst)

abbrev pub optional_weights : Option Text → Result WeightFields SettingsFault
optional_weights None = Ok (record { high = 0; medium = 0; low = 0 })
optional_weights (Some text) = option_map_or (λ weights. Ok weights) (weights_in text) (Err fault.Weights)

-- the fields with this burst and these weights
abbrev pub fields_of : ℕ → WeightFields → ArbitrationFields
fields_of burst weights = record { burst_code = burst; low = weights.low; medium = weights.medium; high = weights.high }

-- the dword with these fields. The first fault is told
abbrev pub dword_of : Result ℕ SettingsFault → Result WeightFields SettingsFault → Result ℕ SettingsFault
dword_of (Err e) weights = Err e
dword_of (Ok burst) (Err e) = Err e
dword_of (Ok burst) (Ok weights) = Ok (cdw11_of (fields_of burst weights))

-- the dword that is said by itself, or by a burst and weights
abbrev pub settings_in : Option Text → Option Text → Option Text → Result ℕ SettingsFault
settings_in (Some text) None None = option_map_or (λ x. Ok x) (dword_in text) (Err fault.Dword)
settings_in (Some text) None (Some weights) = Err fault.Both
settings_in (Some text) (Some burst) weights = Err fault.Both
settings_in None None None = Err fault.Missing
settings_in None None (Some weights) = dword_of (optional_burst None) (optional_weights (Some weights))
settings_in None (Some burst) weights = dword_of (optional_burst (Some burst)) (optional_weights weights)
