use Rattle.std.proofs.Common.{◌≡◌, ◌+◌, ◌-◌, ◌∷◌, [], length, sym, append_assoc, arith}
use Rattle.std.proofs.lemmas.List.FromFn.{map-range_with_len_more}
use Rattle.nvme_workload.specs.Scripts.{copies_of}
use Rattle.nvme_workload.proofs.SoundLemmas.{numbered_push}
use Rattle.nvme_workload.proofs.scripts.push_copies.Goals as goal

pub loop-index-preserved : goal.loop-index-preserved
loop-index-preserved c =
    let before = c.args.script.now.items in
    let first = length before in
    let index = c.loop-index.index in
    let command = c.args.command in
    let more : index + 1 - first ≡ (index - first) + 1 = omega arith in
    let last = map-range_with_len_more (λ i. record command { cid = i }) first (index - first) index (omega arith) in
    record {
      items = rw (c.in_ok-push.ensures.items, c.loop-index.invariant.items, more, last) (append_assoc before (copies_of command first (index - first)) (record command { cid = index } ∷ []));
      count = omega (arith, c.in_ok-push.ensures.len, c.loop-index.invariant.count);
      numbered = λ h. rw c.in_ok-push.ensures.items (numbered_push c.loop-index.script.items (record command { cid = index }) (c.loop-index.invariant.numbered h) (sym c.loop-index.invariant.count));
    }
