-- What is written of a run. (profile)
use Rattle.std.specs.Prelude.{◌≡◌, ℕ, List, ◌++◌, Option, Some, None}
use Rattle.std.specs.Io.KnownBytes.{Appends}
use Rattle.nvme_model.specs.declared.model.Model.{Model}
use Rattle.nvme_numbers.specs.Answers.{asked_in}
use Rattle.nvme_numbers.specs.Collected.{asked_of, began_of, settings_of}
use Rattle.nvme_numbers.specs.Fairness.{IsJain, IsJainByWeight, commands_of_each, level_parts}
use Rattle.nvme_numbers.specs.Objects.{answer_json, answer_open_json}
use Rattle.nvme_numbers.specs.Sheets.{answer_csv}
use Rattle.nvme_numbers.specs.Tables.{answer_text}
use Rattle.nvme_numbers.specs.Told.{Tells}
use Rattle.nvme_numbers.specs.ToldFed.{TellsFed}
use Rattle.nvme_numbers.specs.declared.answer.Answer.{Answer}
use Rattle.nvme_numbers.specs.declared.numbers.Numbers.{Numbers}
use Rattle.nvme_simulate.specs.Played.{IsPlayed, events_of}
use Rattle.nvme_simulate.specs.declared.runs.Form.{Form}
use Rattle.nvme_simulate.specs.declared.runs.Form.TheVariants.{Text, Json, Csv}
use Rattle.nvme_simulation.specs.Simulations.{channels_of}
use Rattle.nvme_simulation.specs.declared.simulation.Simulation.{Simulation}
use Rattle.nvme_waits.specs.Texts.{bounds_json, bounds_text}
use Rattle.nvme_waits.specs.declared.bounds.Bounds.{Bounds}

-- an answer in a form
abbrev pub answer_in : Form → Answer → List ℕ
answer_in Text a = answer_text a
answer_in Json a = answer_json a
answer_in Csv a = answer_csv a

-- with bounds on waits, which sheets have no place for
abbrev pub bounded_in : Form → Answer → Bounds → List ℕ
bounded_in Text a b = answer_text a ++ bounds_text b
bounded_in Json a b = answer_open_json a ++ bounds_json b
bounded_in Csv a b = answer_csv a

abbrev pub answer_with : Form → Answer → Option Bounds → List ℕ
answer_with form a None = answer_in form a
answer_with form a (Some b) = bounded_in form a b

-- an answer tells the numbers of a simulation that ended
pub record IsAnswerOf (n : Numbers) (s : Simulation) (end : ℕ) (a : Answer) : Type 0 where
  pub tells : Tells n end a.queues.items a.classes.items a.all
  pub jain : IsJain (commands_of_each a.queues.items) a.jain
  pub jain_by_weight : IsJainByWeight (asked_of n).mechanism (level_parts (settings_of n) a.queues.items) a.jain_by_weight
  pub began : a.began ≡ began_of n
  pub ended : a.end ≡ end
  pub channels : a.channels.now ≡ channels_of s
  pub asked : asked_in a ≡ asked_of n

-- the answer of a run of a model was written, with bounds where there are some
pub record IsToldOf (model : Model) (form : Form) (bounds : Option Bounds) (old new : Option (List ℕ)) : Type 0 where
  pub simulation : Simulation
  pub numbers : Numbers
  pub end : ℕ
  pub played : IsPlayed model simulation numbers end
  pub answer : Answer
  pub is_answer : IsAnswerOf numbers simulation end answer
  pub fed : TellsFed (events_of played.ran.steps) numbers answer.queues.items answer.classes.items answer.all
  pub written : Appends old new (answer_with form answer bounds)
