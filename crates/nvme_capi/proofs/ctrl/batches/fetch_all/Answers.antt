use Rattle.std.proofs.Common.{rules, ◌≡◌, ◌∙◌, ◌+◌, ◌<◌, length, get_or, sym, ap, subst, arith}
use Rattle.std.specs.Prelude.{zip}
use Rattle.std.specs.Iterator.Adapters.{zip_first, zip_second}
use Rattle.std.specs.Slice.Iter.{iter_rest}
use Rattle.std.proofs.lemmas.List.{length_push}
use Rattle.std.proofs.lemmas.Slice.Zip.{zip_turn, zip_end, length-zip}
use Rattle.nvme_capi.specs.Batches.{FetchesOne, NoneToFetch, with_slots}
use Rattle.nvme_capi.proofs.Repeats.{each_read, pair_at, within_zip}
use Rattle.nvme_capi.proofs.ctrl.batches.fetch_all.Goals as goal

pub loop-entry-preserved : goal.loop-entry-preserved
loop-entry-preserved c =
    let entries : iter_rest (zip_first c.into_iter-entry-iterator.result) ≡ c.args.entries.now = search rules in
    let cookies : iter_rest (zip_second c.into_iter-entry-iterator.result) ≡ c.args.cookies.now = search rules in
    let turn = zip_turn c.args.entries.now c.args.cookies.now c.loop-entry.yielded c.into_iter-entry-iterator.result c.loop-entry.entry-iterator c.next.new.self c.next.result entries cookies c.loop-entry.yielded_by (c.in-Some.entry, c.in-Some.cookie) c.in-Some.is c.next.ensures.steps in
    let at = c.loop-entry.invariant.done in
    let first : c.loop-entry.done < length c.args.entries.now = omega (arith, turn.0) in
    let second : c.loop-entry.done < length c.args.cookies.now = omega (arith, turn.1) in
    let within = within_zip c.args.entries.now c.args.cookies.now c.loop-entry.done first second in
    let is = pair_at c.args.entries.now c.args.cookies.now c.loop-entry.done (c.in-Some.entry.now, c.in-Some.cookie.now) first second
    (turn.2 c.in-Some.entry.now ∙ ap (λ n. get_or c.args.entries.now n c.in-Some.entry.now) (sym at)) (turn.3 c.in-Some.cookie.now ∙ ap (λ n. get_or c.args.cookies.now n c.in-Some.cookie.now) (sym at)) in
    record {
      done = ap (λ n. n + 1) at ∙ sym (length_push c.loop-entry.yielded (c.in-Some.entry, c.in-Some.cookie));
      few = omega (arith, within);
      front = λ it. c.fetch_one.ensures.front (c.loop-entry.invariant.front it);
      depths = c.fetch_one.ensures.depths ∙ c.loop-entry.invariant.depths;
      own = c.fetch_one.ensures.own ∙ c.loop-entry.invariant.own;
      each = each_read (FetchesOne c.args.qid) (zip c.args.entries.now c.args.cookies.now) c.loop-entry.done (c.in-Some.entry.now, c.in-Some.cookie.now) (with_slots c.args.ctrl.now c.args.slots.now) (with_slots c.loop-entry.ctrl c.loop-entry.slots) (with_slots c.fetch_one.new.ctrl c.fetch_one.new.slots)
          within is c.loop-entry.invariant.each (c.fetch_one.ensures.fetched c.if-fetch_one-ne-OK.false);
      generations = λ x. c.fetch_one.ensures.generations x ∙ c.loop-entry.invariant.generations x;
    }

pub returns-in-None-clause-all : goal.returns-in-None-clause-all
returns-in-None-clause-all c = λ less.
    let entries : iter_rest (zip_first c.into_iter-entry-iterator.result) ≡ c.args.entries.now = search rules in
    let cookies : iter_rest (zip_second c.into_iter-entry-iterator.result) ≡ c.args.cookies.now = search rules in
    let end = zip_end c.args.entries.now c.args.cookies.now c.loop-entry.yielded c.into_iter-entry-iterator.result c.loop-entry.entry-iterator c.next.new.self c.next.result entries cookies c.loop-entry.yielded_by c.in-None.is c.next.ensures.steps in
    absurd (omega (arith, end, length-zip c.args.entries.now c.args.cookies.now, c.loop-entry.invariant.done))

pub returns-then-fetch_one-ne-OK-clause-front : goal.returns-then-fetch_one-ne-OK-clause-front
returns-then-fetch_one-ne-OK-clause-front c = λ it. c.fetch_one.ensures.front (c.loop-entry.invariant.front it)

pub returns-then-fetch_one-ne-OK-clause-all : goal.returns-then-fetch_one-ne-OK-clause-all
returns-then-fetch_one-ne-OK-clause-all c = λ _.
    let same = c.fetch_one.ensures.unchanged c.if-fetch_one-ne-OK.true in
    subst (NoneToFetch c.args.qid) (λ i. with_slots (sym same.0 i) (sym same.1 i)) (c.fetch_one.ensures.none c.if-fetch_one-ne-OK.true)
