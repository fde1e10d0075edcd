-- Times that have 64 bits. (profile)
use Rattle.std.specs.Prelude.{ℕ, nat_lt, if◌then◌else◌, Option, Some, None}

abbrev pub fitting : ℕ → Option ℕ
fitting time = if nat_lt time 0x1_0000_0000_0000_0000 then Some time else None
