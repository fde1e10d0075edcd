-- The fields of a trace's lines. (profile)
use Rattle.std.specs.Prelude.{codes, ℕ, List}
use Rattle.nvme_trace.specs.declared.fault.Field.{Field}
use Rattle.nvme_trace.specs.declared.fault.Field.TheVariants as field

-- a field as it stands in a line
abbrev pub text_of : Field → List ℕ
text_of field.Version = codes "version"
text_of field.Mechanism = codes "mechanism"
text_of field.Cdw11 = codes "cdw11"
text_of field.Last = codes "last"
text_of field.Used = codes "used"
text_of field.Set = codes "set"
text_of field.Pick = codes "pick"
text_of field.N = codes "n"
text_of field.Room = codes "room"
text_of field.Fresh = codes "fresh"
text_of field.Seen = codes "seen"
