-- What is settled has the hosts of the workload.
use Rattle.std.proofs.Common.{◌≡◌, ℕ, ◌≤◌, List, [], ◌∷◌, map, length, sym, ap, ◌∙◌, subst}
use Rattle.std.specs.List.{All}
use Rattle.std.proofs.lemmas.List.{length-map}
use Rattle.std.proofs.lemmas.List.Elements.{All-head, All-tail, All-nil, All-cons}
use Rattle.std.proofs.lemmas.Simd.{map-map}
use Rattle.nvme_entry.specs.declared.submission.Sqe.{Sqe}
use Rattle.nvme_entry.specs.declared.completion.Cqe.{Cqe}
use Rattle.nvme_lane.specs.Feeder.{script_of}
use Rattle.nvme_lane.specs.declared.feeder.Feeder.{Feeder}
use Rattle.nvme_lane.specs.declared.drainer.Drainer.{Drainer}
use Rattle.nvme_front.specs.declared.settled.Sent.{Sent}
use Rattle.nvme_front.specs.declared.settled.Settled.{Settled}
use Rattle.nvme_front.specs.Hosts.{told, told_by}
use Rattle.nvme_threads.specs.Hosts.{drainer_seen}
use Rattle.nvme_workload.specs.declared.plan.SqPlan.{SqPlan}
use Rattle.nvme_workload.specs.Plan.{Plan}
use Rattle.nvme_runs.specs.Runs.{HasItsHosts}

-- a pair of script and count has no more than its script
abbrev IsWithin : List Sqe × ℕ → Type 0
IsWithin p = p.1 ≤ length p.0

-- what each feeder sent is within its script
each_within : (fs : List (Feeder Sqe)) → All IsWithin (map told fs)
each_within [] = All-nil IsWithin
each_within (f ∷ fs) = All-cons IsWithin (told f) (map told fs) f.in_script (each_within fs)

-- so is what each host is told to have sent
sent_within : (sent : List Sent) → All IsWithin (map told_by sent) → All (λ (s : Sent). s.count ≤ length s.script.items) sent
sent_within [] all = All-nil (λ (s : Sent). s.count ≤ length s.script.items)
sent_within (s ∷ rest) all =
    All-cons (λ (x : Sent). x.count ≤ length x.script.items) s rest (All-head IsWithin (told_by s) (map told_by rest) all)
    (sent_within rest (All-tail IsWithin (told_by s) (map told_by rest) all))

-- what is settled has the hosts of the workload
pub has_its_hosts : (plan : Plan) (feeders : List (Feeder Sqe)) (before after : List (Drainer Cqe)) (s : Settled)
    → map (λ (f : Feeder Sqe). script_of f) feeders ≡ map (λ (p : SqPlan). p.script) plan.submissions → map told_by s.sent.items ≡ map told feeders
    → length before ≡ length plan.completions → map drainer_seen after ≡ map drainer_seen before → length s.collected.items ≡ length after → HasItsHosts plan s
has_its_hosts plan feeders before after s scripts sent lists seen collected = record {
  scripts = sym (map-map (λ (p : List Sqe × ℕ). p.0) told_by s.sent.items) ∙ ap (map (λ (p : List Sqe × ℕ). p.0)) sent ∙ map-map (λ (p : List Sqe × ℕ). p.0) told feeders ∙ scripts;
  counts = sent_within s.sent.items (subst (λ ps. All IsWithin ps) (sym sent) (each_within feeders));
  lists = collected ∙ sym (length-map after drainer_seen) ∙ ap length seen ∙ length-map before drainer_seen ∙ lists;
}
