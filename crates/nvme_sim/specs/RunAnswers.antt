-- What a run answers, as values, and what its summary counts. (profile)
use Rattle.std.specs.Prelude.{◌≡◌, ℕ, ◌+◌, ◌*◌, ◌/◌, ◌%◌, ◌==◌, if◌then◌else◌, Option, Some, None, List, map, codes, count_by, filter_map, sum_by}
use Rattle.std.specs.List.{range_with_len}
use Rattle.nvme_arbiter.specs.Limits.{queue_limit}
use Rattle.nvme_arbiter.specs.Settings.{cdw11_of}
use Rattle.nvme_lane.specs.declared.mode.Mode.{Mode}
use Rattle.nvme_lane.specs.declared.mode.Mode.TheVariants.{Loaded, Live}
use Rattle.nvme_trace.specs.Names.{mechanism_text}
use Rattle.nvme_report.specs.Rows.{AreRowsOf}
use Rattle.nvme_report.specs.declared.reports.rows.PickRow.{PickRow}
use Rattle.nvme_report.specs.declared.reports.rows.CommandRow.{CommandRow}
use Rattle.nvme_runs.specs.Ran.{BeginsAs}
use Rattle.nvme_runs.specs.Runs.{IsRun}
use Rattle.nvme_runs.specs.declared.runs.Ran.{Ran}
use Rattle.nvme_sim.specs.declared.run_answers.RunAnswer.{RunAnswer}
use Rattle.nvme_sim.specs.declared.run_answers.Share.{Share}
use Rattle.nvme_sim.specs.declared.run_answers.Tally.{Tally}

abbrev pub mode_word : Mode → List ℕ
mode_word Loaded = codes "loaded"
mode_word Live = codes "live"

-- it tells what the report of a run of a text in this mode tells, and what its arbitration began with
pub record IsRunAnswer (mode : Mode) (digest text : List ℕ) (answer : RunAnswer) : Type 0 where
  pub ran : Ran
  pub begins : BeginsAs text ran
  pub is_run : IsRun text mode ran.settled
  pub rows : AreRowsOf ran.settled answer.rows
  pub mode_is : answer.mode.now ≡ mode_word mode
  pub mechanism : answer.mechanism.now ≡ mechanism_text ran.mechanism
  pub cdw11 : answer.cdw11 ≡ cdw11_of ran.settings
  pub digest_is : answer.digest.now ≡ digest
  pub in_words : answer.settings ≡ record { mechanism = ran.mechanism; settings = ran.settings }

-- ---- what each queue got, by ascending identifier
abbrev pub taken_by : ℕ → PickRow → ℕ
taken_by q pick = if pick.queue == q then pick.n else 0

abbrev pub share_of : List PickRow → ℕ → Option Share
share_of picks q =
    let number = count_by (λ (pick : PickRow). pick.queue == q) picks in
    if number == 0 then None else Some (record { queue = q; picks = number; commands = sum_by (taken_by q) picks })

abbrev pub shares_of : List PickRow → List Share
shares_of picks = filter_map (share_of picks) (range_with_len 0 queue_limit)

-- ---- how many commands were answered with each status, by ascending type and code
abbrev pub code_of : CommandRow → ℕ
code_of row = row.status.sct * 256 + row.status.sc

abbrev pub tally_of : List ℕ → ℕ → Option Tally
tally_of statuses code =
    let number = count_by (λ (c : ℕ). c == code) statuses in
    if number == 0 then None else Some (record { sct = code / 256; sc = code % 256; commands = number })

abbrev pub tallies_of : List CommandRow → List Tally
tallies_of rows = filter_map (tally_of (map code_of rows)) (range_with_len 0 2048)
