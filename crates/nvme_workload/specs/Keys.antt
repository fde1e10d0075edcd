-- The keys of a workload file, and those that each kind of table has. (profile)
use Rattle.std.specs.Prelude.{codes, ℕ, List, [], ◌∷◌}
use Rattle.nvme_workload.specs.declared.key.Key.{Key}
use Rattle.nvme_workload.specs.declared.key.Key.TheVariants as key

-- a key as it stands in a file
abbrev pub text_of : Key → List ℕ
text_of key.Mechanism = codes "mechanism"
text_of key.Arbitration = codes "arbitration"
text_of key.SqLimit = codes "sq_limit"
text_of key.CqLimit = codes "cq_limit"
text_of key.Patience = codes "patience"
text_of key.Namespaces = codes "namespaces"
text_of key.Submission = codes "submission"
text_of key.Completion = codes "completion"
text_of key.Address = codes "address"
text_of key.Slots = codes "slots"
text_of key.Script = codes "script"
text_of key.Op = codes "op"
text_of key.Flags = codes "flags"
text_of key.Nsid = codes "nsid"
text_of key.Prp1 = codes "prp1"
text_of key.Cdw10 = codes "cdw10"
text_of key.Cdw11 = codes "cdw11"
text_of key.Cdw12 = codes "cdw12"
text_of key.Count = codes "count"

-- the file's own table
abbrev pub file_keys : List Key
file_keys = key.Mechanism ∷ key.Arbitration ∷ key.SqLimit ∷ key.CqLimit ∷ key.Patience ∷ key.Namespaces ∷ key.Submission ∷ key.Completion ∷ []

-- a table of `submission`
abbrev pub submission_keys : List Key
submission_keys = key.Address ∷ key.Slots ∷ key.Script ∷ []

-- a table of `completion`
abbrev pub completion_keys : List Key
completion_keys = key.Address ∷ key.Slots ∷ []

-- a table of `script`
abbrev pub command_keys : List Key
command_keys = key.Op ∷ key.Flags ∷ key.Nsid ∷ key.Prp1 ∷ key.Cdw10 ∷ key.Cdw11 ∷ key.Cdw12 ∷ key.Count ∷ []
