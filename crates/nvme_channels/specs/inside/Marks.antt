-- The marks of a struct. (profile)
use Rattle.std.specs.Prelude.{Bool, List}
use Rattle.nvme_channels.specs.declared.marks.Marks.{Marks}
use Rattle.nvme_channels.specs.inside.Words.{marks_in}

abbrev pub marks_of : Marks → List Bool
marks_of m = marks_in m.count m.words.items
