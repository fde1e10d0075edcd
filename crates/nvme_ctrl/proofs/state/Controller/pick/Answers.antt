use Rattle.std.specs.Prelude.{option_map}
use Rattle.std.proofs.Common.{Bool, ap, sym, ◌∙◌, Option, Some, subst}
use Rattle.nvme_arbiter.specs.declared.pick.Pick.{Pick}
use Rattle.nvme_ctrl_log.specs.Notes.{logged}
use Rattle.nvme_ctrl_log.specs.Steps.{IsNextPick}
use Rattle.nvme_ctrl.specs.Own.{is_own}
use Rattle.nvme_ctrl.proofs.MayPick.{can_pick, next_within, some_room}
use Rattle.nvme_ctrl.proofs.OldestEntry.{entry_is}
use Rattle.nvme_ctrl.proofs.CommandVerdicts.{IsCommanded}
use Rattle.nvme_ctrl.proofs.PickCall.{next_is, is_busy, isnt_busy}
use Rattle.nvme_ctrl.specs.declared.picks.Step.{Step}
use Rattle.nvme_ctrl.proofs.NamedQueues.{NamesIn}
use Rattle.nvme_ctrl.proofs.ToldEffects.{IdentifiesIn}
use Rattle.nvme_ctrl.proofs.state.Controller.pick.Goals as goal

pub returns-then-self-ne0-clause-stands : goal.returns-then-self-ne0-clause-stands
returns-then-self-ne0-clause-stands c rules late notes s = (s, is_busy rules late notes c.args.self.now c.args.slots.now s c.if-self-ne0.true)

pub returns-in_default-clause-stands : goal.returns-in_default-clause-stands
returns-in_default-clause-stands c rules late notes s =
    (s, subst (λ (o : Option Pick). IsNextPick rules notes o) c.in_default.is (next_is rules late notes c.args.self.now c.args.slots.now s c.peek.result c.peek.ensures.lawful))

pub returns-then-room-eq0-clause-stands : goal.returns-then-room-eq0-clause-stands
returns-then-room-eq0-clause-stands c rules late notes s =
    let next : IsNextPick rules notes (Some c.in-Some.whole) =
    subst (λ (o : Option Pick). IsNextPick rules notes o) c.in-Some.is (next_is rules late notes c.args.self.now c.args.slots.now s c.peek.result c.peek.ensures.lawful) in
    (s, record { pick = c.in-Some.whole; next = next; none = c.if-room-eq0.true })

pub returns-else-is_own-clause-front : goal.returns-else-is_own-clause-front
returns-else-is_own-clause-front c was =
    let step = c.pick_admin-effect.ensures.stands was.rules was.late was.notes was.stands in
    record { rules = _; late = was.late; notes = _; stands = step.carried_out.stands }

pub returns-then-pick-ne0-clause-front : goal.returns-then-pick-ne0-clause-front
returns-then-pick-ne0-clause-front c was =
    let step = c.pick_io.ensures.stands was.rules was.late was.notes was.stands in
    record { rules = was.rules; late = was.late; notes = _; stands = step }

pub returns-then-is_own-clause-front : goal.returns-then-is_own-clause-front
returns-then-is_own-clause-front c was =
    let step = c.pass.ensures.stands was.rules was.late was.notes was.stands in
    record { rules = was.rules; late = was.late; notes = _; stands = step.stands }

pub returns-then-is_own-clause-passed : goal.returns-then-is_own-clause-passed
returns-then-is_own-clause-passed c rules late notes s given is =
    let next : IsNextPick rules notes (Some c.in-Some.whole) =
    subst (λ (o : Option Pick). IsNextPick rules notes o) c.in-Some.is (next_is rules late notes c.args.self.now c.args.slots.now s c.peek.result c.peek.ensures.lawful) in
    ap (option_map (is_own c.args.self.now.own (logged notes))) (sym (entry_is rules late notes c.args.self.now c.args.slots.now s c.if-self-ne0.false c.in-Some.whole next (sym (ap (λ (p : Pick). p.qid) c.up_to-pick.ensures) ∙ c.if-pick-ne0.false)))
    ∙ ap (λ (b : Bool). Some b) (sym (c.is_own.ensures rules late notes s c.if-self-ne0.false) ∙ c.if-is_own.true)

pub returns-else-is_own-clause-carried_out : goal.returns-else-is_own-clause-carried_out
returns-else-is_own-clause-carried_out c rules late notes s given entry is =
    let next : IsNextPick rules notes (Some c.in-Some.whole) =
    subst (λ (o : Option Pick). IsNextPick rules notes o) c.in-Some.is (next_is rules late notes c.args.self.now c.args.slots.now s c.peek.result c.peek.ensures.lawful) in
    ap (option_map (is_own c.args.self.now.own (logged notes))) (sym (entry_is rules late notes c.args.self.now c.args.slots.now s c.if-self-ne0.false c.in-Some.whole next (sym (ap (λ (p : Pick). p.qid) c.up_to-pick.ensures) ∙ c.if-pick-ne0.false)))
    ∙ ap (λ (b : Bool). Some b) (sym (c.is_own.ensures rules late notes s c.if-self-ne0.false) ∙ c.if-is_own.false)

pub pass-requires-clause-own : goal.pass-requires-clause-own
pass-requires-clause-own c rules late notes s = sym (c.is_own.ensures rules late notes s c.if-self-ne0.false) ∙ c.if-is_own.true

pub returns-else-is_own-clause-names : goal.returns-else-is_own-clause-names
returns-else-is_own-clause-names c rules late notes s on effect entry is =
    subst (λ (z : Step). NamesIn (logged notes) z) is (c.pick_admin-effect.ensures.names rules late notes s on)

pub returns-else-is_own-clause-commanded : goal.returns-else-is_own-clause-commanded
returns-else-is_own-clause-commanded c rules late notes s effect entry is =
    subst (λ (z : Step). IsCommanded z) is (c.pick_admin-effect.ensures.commanded rules late notes s)

pub pick_io-requires-clause-can : goal.pick_io-requires-clause-can
pick_io-requires-clause-can c =
    can_pick c.args.self.now c.args.slots.now c.in-Some.whole c.up_to-pick.result c.args.room c.requires.arbiter c.if-self-ne0.false (sym c.peek.ensures.by_what_is_kept ∙ c.in-Some.is) c.up_to-pick.ensures (some_room c.args.room c.if-room-eq0.false)

pub pass-requires-clause-can : goal.pass-requires-clause-can
pass-requires-clause-can c =
    can_pick c.args.self.now c.args.slots.now c.in-Some.whole c.up_to-pick.result c.args.room c.requires.arbiter c.if-self-ne0.false (sym c.peek.ensures.by_what_is_kept ∙ c.in-Some.is) c.up_to-pick.ensures (some_room c.args.room c.if-room-eq0.false)

pub pick_admin-effect-requires-clause-can : goal.pick_admin-effect-requires-clause-can
pick_admin-effect-requires-clause-can c =
    can_pick c.args.self.now c.args.slots.now c.in-Some.whole c.up_to-pick.result c.args.room c.requires.arbiter c.if-self-ne0.false (sym c.peek.ensures.by_what_is_kept ∙ c.in-Some.is) c.up_to-pick.ensures (some_room c.args.room c.if-room-eq0.false)

pub returns-then-pick-ne0-clause-stands : goal.returns-then-pick-ne0-clause-stands
returns-then-pick-ne0-clause-stands c rules late notes s =
    let next : IsNextPick rules notes (Some c.in-Some.whole) =
    subst (λ (o : Option Pick). IsNextPick rules notes o) c.in-Some.is (next_is rules late notes c.args.self.now c.args.slots.now s c.peek.result c.peek.ensures.lawful) in
    (next_within rules notes c.args.room c.in-Some.whole c.up_to-pick.result next c.up_to-pick.ensures, c.pick_io.ensures.stands rules late notes s)

pub returns-in_default-clause-taken : goal.returns-in_default-clause-taken
returns-in_default-clause-taken c rules late notes s busy = absurd (isnt_busy rules late notes c.args.self.now c.args.slots.now s c.if-self-ne0.false busy)

pub returns-then-room-eq0-clause-taken : goal.returns-then-room-eq0-clause-taken
returns-then-room-eq0-clause-taken c rules late notes s busy = absurd (isnt_busy rules late notes c.args.self.now c.args.slots.now s c.if-self-ne0.false busy)

pub returns-then-pick-ne0-clause-taken : goal.returns-then-pick-ne0-clause-taken
returns-then-pick-ne0-clause-taken c rules late notes s busy = absurd (isnt_busy rules late notes c.args.self.now c.args.slots.now s c.if-self-ne0.false busy)

pub returns-then-is_own-clause-taken : goal.returns-then-is_own-clause-taken
returns-then-is_own-clause-taken c rules late notes s busy = absurd (isnt_busy rules late notes c.args.self.now c.args.slots.now s c.if-self-ne0.false busy)

pub returns-else-is_own-clause-taken : goal.returns-else-is_own-clause-taken
returns-else-is_own-clause-taken c rules late notes s busy = absurd (isnt_busy rules late notes c.args.self.now c.args.slots.now s c.if-self-ne0.false busy)

pub returns-else-is_own-clause-anywhere : goal.returns-else-is_own-clause-anywhere
returns-else-is_own-clause-anywhere c rules late notes s on effect entry is =
    subst (λ (z : Step). IdentifiesIn z) is (c.pick_admin-effect.ensures.anywhere rules late notes s on)

pub returns-then-pick-ne0-clause-needs_room : goal.returns-then-pick-ne0-clause-needs_room
returns-then-pick-ne0-clause-needs_room c none = absurd (c.if-room-eq0.false none)

pub returns-then-is_own-clause-needs_room : goal.returns-then-is_own-clause-needs_room
returns-then-is_own-clause-needs_room c none = absurd (c.if-room-eq0.false none)

pub returns-else-is_own-clause-needs_room : goal.returns-else-is_own-clause-needs_room
returns-else-is_own-clause-needs_room c none = absurd (c.if-room-eq0.false none)
