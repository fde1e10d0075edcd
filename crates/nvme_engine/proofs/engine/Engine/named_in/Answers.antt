use Rattle.std.proofs.Common.{ℕ, List, [], filter, refl, sym, ap, ◌∙◌, arith}
use Rattle.std.specs.Prelude.{slice_get}
use Rattle.std.proofs.lemmas.Bool.{eq-eqb, ne_eqb}
use Rattle.nvme_log.specs.Places.{waiting, entry_at}
use Rattle.nvme_log.specs.Effects.{has_cid}
use Rattle.nvme_ctrl_log.specs.Notes.{logged}
use Rattle.nvme_engine.proofs.NextPicks.{stands_with}
use Rattle.nvme_engine.proofs.Endings.{take_whole, none_next, first_passes, index_at, has_its_cid}
use Rattle.nvme_engine.proofs.engine.Engine.named_in.Goals as goal
use Rattle.nvme_engine.proofs.engine.Engine.named_in.Goals.{in-Some+else-command-cid, in_default}

pub loop-n-init : goal.loop-n-init
loop-n-init c = record {
  end = λ rules late notes s queue opened. c.waiting-n-end.ensures.waits s.their s.their_late notes c.args.self.now.slots.items s.stands queue opened;
  none = λ rules late notes s queue opened. refl;
}

pub returns-then-command-cid : goal.returns-then-command-cid
returns-then-command-cid c rules late notes s queue opened =
    let self = c.args.self.now in
    let entry = c.in-Some.command.entry in
    let cookie = c.in-Some.command.cookie in
    let waits = c.in-Some.ensures.some s.their s.their_late notes (stands_with rules late notes [] self s c.as_slice.result.now c.as_slice.ensures.value) in
    let at = index_at rules late notes [] self s c.args.qid queue opened c.loop-n.n entry cookie waits in
    let cid = has_its_cid rules late notes [] self s c.args.qid queue opened c.loop-n.n entry cookie waits c.args.cid in
    sym (first_passes (λ (i : ℕ). has_cid c.args.cid (entry_at (logged notes) queue.region i)) (waiting (logged notes) queue.region) c.loop-n.n cookie at
    (cid ∙ eq-eqb entry.cid c.args.cid c.if-command-cid.true) (c.loop-n.invariant.none rules late notes s queue opened))

pub loop-n-preserved : goal.loop-n-preserved
loop-n-preserved c = record {
  end = c.loop-n.invariant.end;
  none = λ rules late notes s queue opened.
      let self = c.args.self.now in
      let end = c.loop-n.invariant.end rules late notes s queue opened in
      let stands = stands_with rules late notes [] self s c.as_slice.result.now c.as_slice.ensures.value in
      elim c.match-waits.branch [
        | in-Some+else-command-cid w ↦
            let entry = w.in-Some.command.entry in
            let cookie = w.in-Some.command.cookie in
            let waits = w.in-Some.ensures.some s.their s.their_late notes stands in
            let at = index_at rules late notes [] self s c.args.qid queue opened c.loop-n.n entry cookie waits in
            let cid = has_its_cid rules late notes [] self s c.args.qid queue opened c.loop-n.n entry cookie waits c.args.cid in
            none_next (λ (i : ℕ). has_cid c.args.cid (entry_at (logged notes) queue.region i)) (waiting (logged notes) queue.region) c.loop-n.n cookie at
            (cid ∙ ne_eqb entry.cid c.args.cid w.if-command-cid.false) (c.loop-n.invariant.none rules late notes s queue opened)
        | in_default w ↦
            let none = w.in_default.ensures.none s.their s.their_late notes stands refl queue opened in
            absurd (omega (arith, none, end, c.loop-n-test.true))
      ];
}

pub returns : goal.returns
returns c rules late notes s queue opened =
    let end = c.loop-n.invariant.end rules late notes s queue opened in
    let test = λ (i : ℕ). has_cid c.args.cid (entry_at (logged notes) queue.region i) in
    let places = waiting (logged notes) queue.region in
    let none = c.loop-n.invariant.none rules late notes s queue opened in
    ap (λ (xs : List ℕ). slice_get xs 0) (sym none ∙ ap (filter test) (take_whole places c.loop-n.n (omega (arith, end, c.loop-n.auto.n-end, c.loop-n-test.false))))
