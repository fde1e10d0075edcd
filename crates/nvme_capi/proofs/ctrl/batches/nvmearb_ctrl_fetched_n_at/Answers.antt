use Rattle.std.proofs.Common.{◌≡◌, ◌∙◌, ◌*◌, length, refl, sym, subst, arith}
use Rattle.std.specs.Prelude.{zip}
use Rattle.nvme_capi.specs.Controllers.{is_ctrl, has_slots}
use Rattle.nvme_capi.specs.Batches.{FetchesOne, NoneToFetch, with_slots}
use Rattle.nvme_capi.proofs.Refusals.{not_told, not_ok, only_ok, no_state_refused, no_refusal}
use Rattle.nvme_capi.proofs.Repeats.{no_call, length_pairs}
use Rattle.nvme_capi.proofs.ctrl.batches.nvmearb_ctrl_fetched_n_at.Goals as goal

pub returns-clause-bad_state : goal.returns-clause-bad_state
returns-clause-bad_state c = no_state_refused c.put_count.result (is_ctrl c.args.state.now) (not_told c.put_count.result 3 c.put_count.ensures.answer (omega arith)) (sym c.is_ctrl.ensures ∙ c.if-not-is_ctrl.false)

pub returns-clause-bad_argument : goal.returns-clause-bad_argument
returns-clause-bad_argument c =
    no_refusal c.put_count.result (is_ctrl c.args.state.now) (has_slots c.args.state.now c.args.slots.now) (length c.args.entries.now ≡ 64 * length c.args.cookies.now → ⊥)
    (not_told c.put_count.result 2 c.put_count.ensures.answer (omega arith)) (sym c.has_slots.ensures ∙ c.if-not-has_slots.false) (λ other. other (c.in-Some.ensures.whole.0 refl))

pub returns-clause-few : goal.returns-clause-few
returns-clause-few c = λ _. omega (arith, length_pairs c.in-Some.entries.now c.args.cookies.now c.in-Some.ensures.many)

pub returns-clause-all : goal.returns-clause-all
returns-clause-all c = λ _ less. c.fetch_all.ensures.all (omega (arith, length_pairs c.in-Some.entries.now c.args.cookies.now c.in-Some.ensures.many))

pub returns-clause-nothing : goal.returns-clause-nothing
returns-clause-nothing c = λ nothing some.
    let none = c.put_count.ensures.none (not_ok c.put_count.result nothing) in
    subst (NoneToFetch c.args.qid) (no_call (FetchesOne c.args.qid) (zip c.in-Some.entries.now c.args.cookies.now) c.fetch_all.result (with_slots c.args.state.now.ctrl c.args.slots.now) (with_slots c.fetch_all.new.ctrl c.fetch_all.new.slots) none c.fetch_all.ensures.each)
    (c.fetch_all.ensures.all (omega (arith, length_pairs c.in-Some.entries.now c.args.cookies.now c.in-Some.ensures.many)))

pub returns-clause-kept : goal.returns-clause-kept
returns-clause-kept c = λ k. record { front = λ m n. c.fetch_all.ensures.front (k.front m (sym c.has_slots.ensures ∙ c.if-not-has_slots.false)) }

pub returns-then-next-eq-NOTHING-clause-nothing : goal.returns-then-next-eq-NOTHING-clause-nothing
returns-then-next-eq-NOTHING-clause-nothing c = λ _ _. c.next_is-next.ensures.none c.args.slots.now c.if-next-eq-NOTHING.true

pub returns-clause-this : goal.returns-clause-this
returns-clause-this c = λ _.
    c.next_is-next.ensures.this c.args.slots.now (only_ok c.next_is-next.result c.next_is-next.ensures.answer c.if-next-eq-NOTHING.false c.if-next-eq-OTHER_SLOT.false)
