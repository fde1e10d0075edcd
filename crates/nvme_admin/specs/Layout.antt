-- How a table lies in memory: in numbers, of which each pattern of bits says something (profile).
use Rattle.std.specs.Prelude.{ℕ, ◌-◌, ◌==◌, Bool, not, nat_lt, if◌then◌else◌, List, map, take, Option, Some, None}
use Rattle.nvme_arbiter.specs.Settings.{ArbitrationFields, settings_of, class_of_number}
use Rattle.nvme_arbiter.specs.declared.settings.Class.{Class}
use Rattle.nvme_admin.specs.declared.bounds.TheConstants.{MAX_IO_QUEUES}
use Rattle.nvme_admin.specs.declared.layout.Flag.{Flag}
use Rattle.nvme_admin.specs.declared.layout.Allotted.{Allotted}
use Rattle.nvme_admin.specs.declared.layout.SettingsWord.{SettingsWord}
use Rattle.nvme_admin.specs.declared.layout.SqPlace.{SqPlace}
use Rattle.nvme_admin.specs.declared.layout.CqPlace.{CqPlace}
use Rattle.nvme_admin.specs.declared.layout.Regions.{Regions}
use Rattle.nvme_admin.specs.declared.fields.TableFields.{TableFields}
use Rattle.nvme_admin.specs.declared.region.Region.{Region}
use Rattle.nvme_admin.specs.Standing.{TableView}
use Rattle.nvme_admin.specs.declared.verdict.SqEntry.{SqEntry}

-- a flag is up where its number isn't 0
abbrev pub up : Flag → Bool
up f = not (f.number == 0)

-- the flags that are up, in their order
abbrev pub flags_in : List Flag → List Bool
flags_in fs = map {A = Flag} {B = Bool} up fs

-- how many I/O queues a number allots: itself, within 1 and the most
abbrev pub allotted_by : ℕ → ℕ
allotted_by n = if n == 0 then 1 else (if nat_lt MAX_IO_QUEUES n then MAX_IO_QUEUES else n)

abbrev pub allotted_in : Allotted → ℕ
allotted_in a = allotted_by a.number

-- the settings of a word
abbrev pub settings_in : SettingsWord → ArbitrationFields
settings_in w = settings_of w.cdw11

-- the class of the queue of a place: that of the number less 1, and no queue by 0 or past the last class
abbrev pub class_in : ℕ → Option Class
class_in n = if n == 0 then None else class_of_number (n - 1)

abbrev pub sq_as : SqPlace → Option Class → Option SqEntry
sq_as p None = None
sq_as p (Some class) = Some (record { region = p.region; cqid = p.cqid; class = class; closing = up p.closing })

-- the submission queue of a place, where one is open or closing there
abbrev pub sq_of_place : SqPlace → Option SqEntry
sq_of_place p = sq_as p (class_in p.class)

abbrev pub sqs_of_places : List SqPlace → List (Option SqEntry)
sqs_of_places ps = map {A = SqPlace} {B = Option SqEntry} sq_of_place ps

-- the region of the completion queue of a place, where one is open there
abbrev pub cq_of_place : CqPlace → Option ℕ
cq_of_place p = if up p.open then Some p.region else None

abbrev pub cqs_of_places : List CqPlace → List (Option ℕ)
cqs_of_places ps = map {A = CqPlace} {B = Option ℕ} cq_of_place ps

-- the regions of a kind: those of the first places
abbrev pub regions_in : Regions → List Region
regions_in r = take r.count r.places

-- the content of a table
abbrev pub view_of : TableFields → TableView
view_of t = record {
  sq_regions = regions_in t.sq_regions;
  cq_regions = regions_in t.cq_regions;
  sq_used = flags_in t.sq_used;
  cq_used = flags_in t.cq_used;
  sqs = sqs_of_places t.sqs;
  cqs = cqs_of_places t.cqs;
  nsq = allotted_in t.nsq;
  ncq = allotted_in t.ncq;
  numbers_set = up t.numbers_set;
  created = up t.created;
  settings = settings_in t.settings;
}
