-- What a short table is written out to reads as its workload.
use Rattle.std.proofs.Common.{◌≡◌, ℕ, List, Some, Result, Ok, Err}
use Rattle.std.specs.Prelude.{IsUtf8}
use Rattle.std.proofs.lemmas.Str.{is_utf8-from_IsUtf8}
use Rattle.toml.specs.Data.{Members}
use Rattle.toml.specs.Parse.{parse_document}
use Rattle.nvme_workload.specs.declared.error.WorkloadError.{WorkloadError}
use Rattle.nvme_workload.specs.Plan.{Plan, plan_in, plan_of_text, workload_of}
use Rattle.nvme_short.specs.declared.expansion.ExpandError.{ExpandError}
use Rattle.nvme_short.specs.declared.expansion.ExpandError.TheVariants as told_error
use Rattle.nvme_short.specs.Expansion.{expansion_of, told, plan_of_short, short_in, Reads, TellsFaultsOf, TellsShortFaults}

told_ok : (r : Result Plan WorkloadError) (plan : Plan) → told r ≡ Ok plan → r ≡ Ok plan
told_ok (Ok p) plan h = cc
told_ok (Err e) plan h = absurd (cc h)

short_reads : (table written : Members) (plan : Plan) → expansion_of table ≡ Ok written → told (plan_in written) ≡ Ok plan → plan_of_short table ≡ Ok plan
unfolding plan_of_short
short_reads table written plan is h = rw is h

text_in : (text : List ℕ) (written : Members) (plan : Plan) → parse_document text ≡ Some written → plan_in written ≡ Ok plan → plan_of_text text ≡ Ok plan
unfolding plan_of_text
text_in text written plan parsed h = rw parsed h

text_reads : (text : List ℕ) (written : Members) (plan : Plan) → IsUtf8 text → parse_document text ≡ Some written → plan_in written ≡ Ok plan → workload_of text ≡ Ok plan
unfolding workload_of
text_reads text written plan utf8 parsed h = rw (is_utf8-from_IsUtf8 text utf8) (text_in text written plan parsed h)

-- a text that is parsed as what a table is written out to
pub written_reads : (table written : Members) (plan : Plan) (text : List ℕ) → expansion_of table ≡ Ok written → told (plan_in written) ≡ Ok plan
    → IsUtf8 text → parse_document text ≡ Some written → Reads table text
written_reads table written plan text is h utf8 parsed =
    (plan, short_reads table written plan is h, text_reads text written plan utf8 parsed (told_ok (plan_in written) plan h))

-- the faults of a table that are told
pub told_of_bytes : (bytes : List ℕ) (table : Members) (e : ExpandError) → short_in bytes ≡ Some table → TellsFaultsOf table e → TellsShortFaults bytes e
told_of_bytes bytes table (told_error.Faults f) is h = (table, is, h)
told_of_bytes bytes table told_error.NoMemory is h = tt
