-- The model of a point, its run with one of its seeds, and what is told of it. (profile)
use Rattle.std.specs.Prelude.{◌≡◌, ◌+◌, ◌%◌, ◌^◌, ℕ, Bool, true, false, List, [], ◌∷◌, length, option_map, unwrap_or, Option, Some, None, IfSome}
use Rattle.std.specs.Borrow.{Bor}
use Rattle.std.specs.List.{list_any}
use Rattle.toml.specs.Data.{Members}
use Rattle.toml.specs.Parse.{parse_document}
use Rattle.nvme_load.specs.declared.arrivals.Arrivals.{Arrivals}
use Rattle.nvme_load.specs.declared.arrivals.Arrivals.TheVariants as arrivals
use Rattle.nvme_model.specs.declared.model.Model.{Model}
use Rattle.nvme_model.specs.declared.queue.Queue.{Queue}
use Rattle.nvme_model_form.specs.Models.{Says}
use Rattle.nvme_model_form.specs.Simulations.{lasting_at}
use Rattle.nvme_simulate.specs.Chosen.{IsLoadOf}
use Rattle.nvme_simulate.specs.Played.{IsMeasured}
use Rattle.nvme_simulate.specs.Scaling.{AreScaled}
use Rattle.nvme_simulate.specs.declared.overrides.Overrides.{Overrides}
use Rattle.nvme_simulate.specs.declared.target.Load.{Load}
use Rattle.nvme_points.specs.Documents.{Text, load_among, put_all}
use Rattle.nvme_points.specs.declared.axis.Axis.{Axis}
use Rattle.nvme_points.specs.declared.rows.Run.{Run}

-- ---- the document of a point

-- that of a file's text with the values of keys
pub record IsDocumentAt (text : Text) (axes : List Axis) (values : List (Bor Text)) (at : Members) : Type 0 where
  pub file : Members
  pub is_file : parse_document text ≡ Some file
  pub put : put_all axes values file ≡ Some at

-- ---- what stands in place of what it says

-- a load that is swept stands in place of that of the options
abbrev pub IsLoadAt : Option Text → (said at : Option Load) → Type 0
IsLoadAt None said at = at ≡ said
IsLoadAt (Some text) said at = IsLoadOf (Some text) at

-- the options at a point
pub record AreOptionsAt (axes : List Axis) (values : List (Bor Text)) (options at : Overrides) : Type 0 where
  pub seed : at.seed ≡ options.seed
  pub end : at.end ≡ options.end
  pub warm_up : at.warm_up ≡ options.warm_up
  pub load : IsLoadAt (load_among axes values) options.load at.load

-- a model with what options say in place of its own
pub record Stand (options : Overrides) (old new : Model) : Type 0 where
  pub seed : new.seed ≡ unwrap_or options.seed old.seed
  pub end : new.end ≡ unwrap_or options.end old.end
  pub warm_up : new.warm_up ≡ unwrap_or options.warm_up old.warm_up
  pub mechanism : new.mechanism ≡ old.mechanism
  pub settings : new.settings ≡ old.settings
  pub device : new.device ≡ old.device
  pub queues : options.load ≡ None → new.queues ≡ old.queues
  pub scaling : IfSome options.load (λ load. AreScaled load.millionths old.device old.queues.items new.queues.items)

-- ---- the model of a point

-- a queue replays a list
abbrev pub is_list : Arrivals → Bool
is_list (arrivals.Replay list) = true
is_list _ = false

abbrev pub replays : List Queue → Bool
replays queues = list_any (λ (q : Queue). is_list q.arrivals) queues

-- the lists of files stand for arrivals of queues that replay one, and all else is as before
pub record IsListed (old new : Model) : Type 0 where
  pub none : replays old.queues.items ≡ false → new ≡ old
  pub rest : new ≡ record old { queues = new.queues; some = new.some; at_most = new.at_most }
  pub count : length new.queues.items ≡ length old.queues.items

-- the first seed: that of the options, or else that of the document
abbrev pub first_of : Overrides → Members → Option ℕ
first_of options file = option_map (λ l. unwrap_or options.seed l.seed) (lasting_at file)

-- what the file's document with these values says, with the lists that are replayed, and with what options say in its place
pub record IsModelAt (text : Text) (axes : List Axis) (options : Overrides) (values : List (Bor Text)) (model : Model) : Type 0 where
  pub at : Members
  pub document : IsDocumentAt text axes values at
  pub said : Model
  pub says : Says at said
  pub listed : Model
  pub lists : IsListed said listed
  pub chosen : Overrides
  pub options_are : AreOptionsAt axes values options chosen
  pub stand : Stand chosen listed model
  pub first : first_of options at ≡ Some model.seed

-- ---- a run

-- the run of a model with the seed of a number, from 0 on: it is so much above the first one, which is the model's
pub record RunsBy (model : Model) (number : ℕ) (run : Run) : Type 0 where
  pub seed : run.seed ≡ (model.seed + number) % 2 ^ 64
  pub ran : Model
  pub ran_is : ran ≡ record model { queues = ran.queues; seed = run.seed; some = ran.some; at_most = ran.at_most }
  pub queues : ran.queues ≡ model.queues
  pub measured : IsMeasured ran run.measured

-- that of a point with these values
pub record IsRunOf (text : Text) (axes : List Axis) (options : Overrides) (values : List (Bor Text)) (number : ℕ) (run : Run) : Type 0 where
  pub model : Model
  pub is_model : IsModelAt text axes options values model
  pub runs : RunsBy model number run

-- the first of the seeds of runs, 0 of none
abbrev pub first_seed : List Run → ℕ
first_seed [] = 0
first_seed (run ∷ runs) = run.seed
