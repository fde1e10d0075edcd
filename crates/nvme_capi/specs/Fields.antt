-- What the structs of C say, in the libraries' terms (profile).
use Rattle.std.specs.Prelude.{ℕ, ◌≤◌, ◌==◌, Bool, if◌then◌else◌, unwrap_or}
use Rattle.nvme_entry.specs.Status.{StatusCode}
use Rattle.nvme_entry.specs.declared.completion.Cqe.{Cqe}
use Rattle.nvme_entry.specs.declared.admin.AdminCommand.{AdminCommand}
use Rattle.nvme_entry.specs.declared.admin.AdminCommand.TheVariants.{DeleteSq, CreateSq, DeleteCq, CreateCq, Abort, SetFeatures, GetFeatures, Other}
use Rattle.nvme_arbiter.specs.Settings.{ArbitrationFields, cdw11_of, burst_of, weight_of}
use Rattle.nvme_arbiter.specs.declared.settings.Class.TheVariants.{High, Medium, Low}
use Rattle.nvme_capi.specs.declared.fields.StatusFields.{StatusFields}
use Rattle.nvme_capi.specs.declared.fields.CompletionFields.{CompletionFields}
use Rattle.nvme_capi.specs.declared.fields.AdminFields.{AdminFields}
use Rattle.nvme_capi.specs.declared.fields.SettingsFields.{SettingsFields}

-- the status of these fields
abbrev pub code_of : StatusFields → StatusCode
code_of f = record { sct = f.sct; sc = f.sc }

-- the completion entry of these fields
abbrev pub completion_of : CompletionFields → Cqe
completion_of f = record {
  dw0 = f.dw0;
  sqhd = f.sqhd;
  sqid = f.sqid;
  cid = f.cid;
  phase = f.phase == 1;
  status = code_of f.status;
}

-- the fields are those of a completion entry
pub record FitsCompletion (f : CompletionFields) : Type 0 where
  pub phase : f.phase ≤ 1
  pub sct : f.status.sct ≤ 7

-- no field of an admin command
abbrev pub no_fields : AdminFields
no_fields = record { kind = 0; cdw11 = 0; prp1 = 0; qid = 0; qsize = 0; cqid = 0; qprio = 0; pc = 0; fid = 0; sv = 0; cid = 0 }

abbrev pub bit : Bool → ℕ
bit b = if b then 1 else 0

-- an admin command by its kind, with each field that a command of this kind has
abbrev pub admin_fields_of : AdminCommand → AdminFields
admin_fields_of (DeleteSq qid) = record no_fields { kind = 1; qid = qid }
admin_fields_of (CreateSq qid qsize prp1 cqid qprio pc) =
    record no_fields { kind = 2; qid = qid; qsize = qsize; prp1 = prp1; cqid = cqid; qprio = qprio; pc = bit pc }
admin_fields_of (DeleteCq qid) = record no_fields { kind = 3; qid = qid }
admin_fields_of (CreateCq qid qsize prp1 pc) = record no_fields { kind = 4; qid = qid; qsize = qsize; prp1 = prp1; pc = bit pc }
admin_fields_of (SetFeatures fid sv cdw11) = record no_fields { kind = 5; fid = fid; sv = bit sv; cdw11 = cdw11 }
admin_fields_of (GetFeatures fid) = record no_fields { kind = 6; fid = fid }
admin_fields_of (Abort sqid cid) = record no_fields { kind = 7; qid = sqid; cid = cid }
admin_fields_of Other = no_fields

-- what settings say. No limit of the burst is 0
abbrev pub settings_fields_of : ArbitrationFields → SettingsFields
settings_fields_of s = record {
  cdw11 = cdw11_of s;
  burst = unwrap_or (burst_of s) 0;
  high = weight_of s High;
  medium = weight_of s Medium;
  low = weight_of s Low;
}
