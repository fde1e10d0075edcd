-- Namespace identifiers (NSIDs), over the sizes of the namespaces in logical blocks: that of NSID 1 comes first, and
-- a size of 0 says that the NSID is inactive.
-- (Base Specification, Valid and Invalid NSIDs, and Active and Inactive NSID Types)
use Rattle.std.specs.Prelude.{ℕ, nat_lt, nat_le, ◌&&◌, Bool, List, length, unwrap_or}
use Rattle.nvme_entry.specs.Namespaces.{size_at}

-- valid NSIDs are 1 to the number of namespaces
abbrev pub is_valid : List ℕ → ℕ → Bool
is_valid sizes nsid = nat_le 1 nsid && nat_le nsid (length sizes)

-- the size of a namespace, and 0 where there is none
abbrev pub size_of : List ℕ → ℕ → ℕ
size_of sizes nsid = unwrap_or (size_at sizes nsid) 0

-- an active NSID is one of a namespace that is there
abbrev pub is_active : List ℕ → ℕ → Bool
is_active sizes nsid = nat_lt 0 (size_of sizes nsid)
