-- The fields of a log's lines, and the kinds of lines. (profile)
use Rattle.std.specs.Prelude.{codes, ℕ, List}
use Rattle.nvme_audit_text.specs.declared.fault.Kind.{Kind}
use Rattle.nvme_audit_text.specs.declared.fault.Kind.TheVariants as kind
use Rattle.nvme_audit_text.specs.declared.fault.Field.{Field}
use Rattle.nvme_audit_text.specs.declared.fault.Field.TheVariants as field

-- a kind as it stands in a line
abbrev pub kind_text : Kind → List ℕ
kind_text kind.Tail = codes "tail"
kind_text kind.Head = codes "head"
kind_text kind.Fetch = codes "fetch"
kind_text kind.Post = codes "post"
kind_text kind.Complete = codes "complete"
kind_text kind.Start = codes "start"
kind_text kind.Done = codes "done"
kind_text kind.Pick = codes "pick"
kind_text kind.Set = codes "set"

-- a field as it stands in a line
abbrev pub text_of : Field → List ℕ
text_of field.Log = codes "log"
text_of field.Tells = codes "tells"
text_of field.Asq = codes "asq"
text_of field.Acq = codes "acq"
text_of field.By = codes "by"
text_of field.End = codes "end"
text_of field.Queues = codes "queues"
text_of field.Mqes = codes "mqes"
text_of field.Mechanism = codes "mechanism"
text_of field.Settings = codes "cdw11"
text_of (field.Of kind) = kind_text kind
text_of field.Slot = codes "slot"
text_of field.Sqe = codes "sqe"
text_of field.Cid = codes "cid"
text_of field.Op = codes "op"
text_of field.Cdw10 = codes "cdw10"
text_of field.Cdw11 = codes "cdw11"
text_of field.Cqe = codes "cqe"
text_of field.Sq = codes "sq"
text_of field.Status = codes "status"
text_of field.Sqhd = codes "sqhd"
text_of field.Phase = codes "phase"
text_of field.Dw0 = codes "dw0"
