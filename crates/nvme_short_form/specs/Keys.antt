-- The keys of a short workload file, and those that each kind of table has. (profile)
use Rattle.std.specs.Prelude.{codes, ℕ, List, [], ◌∷◌}
use Rattle.nvme_short_form.specs.declared.key.Key.{Key}
use Rattle.nvme_short_form.specs.declared.key.Key.TheVariants as key

-- a key as it stands in a file
abbrev pub text_of : Key → List ℕ
text_of key.Version = codes "version"
text_of key.Mechanism = codes "mechanism"
text_of key.Burst = codes "burst"
text_of key.Weights = codes "weights"
text_of key.High = codes "high"
text_of key.Medium = codes "medium"
text_of key.Low = codes "low"
text_of key.Namespaces = codes "namespaces"
text_of key.Patience = codes "patience"
text_of key.AdminDepth = codes "admin_depth"
text_of key.AdminCqDepth = codes "admin_cq_depth"
text_of key.Admin = codes "admin"
text_of key.Queue = codes "queue"
text_of key.Class = codes "class"
text_of key.Depth = codes "depth"
text_of key.Cq = codes "cq"
text_of key.CqDepth = codes "cq_depth"
text_of key.Script = codes "script"
text_of key.Repeat = codes "repeat"
text_of key.Op = codes "op"
text_of key.Slba = codes "slba"
text_of key.Blocks = codes "blocks"
text_of key.Spread = codes "spread"
text_of key.Number = codes "queue"
text_of key.Target = codes "queue"
text_of key.Cid = codes "cid"
text_of key.Feature = codes "feature"
text_of key.Flags = codes "flags"
text_of key.Nsid = codes "nsid"
text_of key.Prp1 = codes "prp1"
text_of key.Cdw10 = codes "cdw10"
text_of key.Cdw11 = codes "cdw11"
text_of key.Cdw12 = codes "cdw12"
text_of key.Count = codes "count"

-- the file's own table
abbrev pub file_keys : List Key
file_keys =
    key.Version ∷ key.Mechanism ∷ key.Burst ∷ key.Weights ∷ key.Namespaces ∷ key.Patience ∷ key.AdminDepth ∷ key.AdminCqDepth ∷ key.Queue ∷ key.Admin ∷ []

-- the table of `weights`
abbrev pub weight_keys : List Key
weight_keys = key.High ∷ key.Medium ∷ key.Low ∷ []

-- a table of `queue`, and of one that shares another's completion queue
abbrev pub queue_keys : List Key
queue_keys = key.Class ∷ key.Depth ∷ key.Cq ∷ key.CqDepth ∷ key.Script ∷ []

abbrev pub shared_keys : List Key
shared_keys = key.Class ∷ key.Depth ∷ key.Cq ∷ key.Script ∷ []

-- the items of a script, by what `op` says
abbrev pub access_keys : List Key
access_keys = key.Op ∷ key.Nsid ∷ key.Slba ∷ key.Blocks ∷ key.Count ∷ key.Spread ∷ []

abbrev pub flush_keys : List Key
flush_keys = key.Op ∷ key.Nsid ∷ key.Count ∷ []

abbrev pub raw_keys : List Key
raw_keys = key.Op ∷ key.Flags ∷ key.Nsid ∷ key.Prp1 ∷ key.Cdw10 ∷ key.Cdw11 ∷ key.Cdw12 ∷ key.Count ∷ []

-- an item that repeats a script
abbrev pub repeat_keys : List Key
repeat_keys = key.Repeat ∷ key.Script ∷ []

-- the items of `admin`, by what `op` says
abbrev pub queue_op_keys : List Key
queue_op_keys = key.Op ∷ key.Number ∷ []

abbrev pub abort_keys : List Key
abort_keys = key.Op ∷ key.Target ∷ key.Cid ∷ []

abbrev pub set_keys : List Key
set_keys = key.Op ∷ key.Burst ∷ key.Weights ∷ []

abbrev pub get_keys : List Key
get_keys = key.Op ∷ key.Feature ∷ []
