-- A command more.
use Rattle.std.proofs.Common.{rules, ◌<◌, ◌≤◌, ◌++◌, ◌%◌, length, get_or, ◌∙◌, ap}
use Rattle.nvme_entry.specs.declared.submission.Sqe.{Sqe}
use Rattle.nvme_lint.specs.Warnings.{commands_of, history_after, of_command, room_of, told_of}
use Rattle.nvme_lint.proofs.Playing.{no_entry, plays_one, plays_none, plays_all}
use Rattle.nvme_lint.proofs.warnings.push_commands.Goals as goal

pub loop-command-init : goal.loop-command-init
loop-command-init c = record { stands = c.requires.stands; plays = λ start h st. plays_none (told_of c.args.sqs.now c.args.cqs.now) start h c.args.warnings.now.items c.args.script.now c.args.table.now st }

pub loop-command-preserved : goal.loop-command-preserved
loop-command-preserved c =
    let i = c.loop-command.command in
    let there : i < length c.args.script.now = search rules in
    let d : Sqe = no_entry in
    let was = c.loop-command.invariant.stands in record {
      stands = (was.0, history_after was.0 was.1 (get_or c.args.script.now i d), c.play-status.ensures.stands was.0 was.1 was.2);
      plays = λ start h st.
          let p = c.loop-command.invariant.plays start h st in
          let entry : Sqe = get_or c.args.script.now i d in
          let status = c.play-status.ensures.status start p.now p.stands in
          let queue = c.commands_at-commands.ensures ∙ ap (commands_of c.args.sqs.now) (p.stands.sq (entry.cdw10 % 65536)) in
          let room = c.room_of-room.ensures ∙ (λ j. room_of (p.stands.sq (entry.cdw10 % 65536) j) (p.stands.cq (entry.cdw10 % 65536) j) (p.stands.nsq j) (p.stands.ncq j) entry) in
          plays_one (told_of c.args.sqs.now c.args.cqs.now) start h c.args.warnings.now.items c.args.script.now i d c.loop-command.table c.play-status.new.table c.loop-command.warnings.items c.push_command.new.warnings.items
          there p (c.play-status.ensures.stands start p.now p.stands)
          (c.in_ok-push_command.ensures.told ∙ (λ j. c.loop-command.warnings.items ++ of_command i entry (status j) (c.site_of-site.ensures j) (room j) (queue j)));
    }

pub returns-clause-told : goal.returns-clause-told
returns-clause-told c = λ start h st.
    let over : length c.args.script.now ≤ c.loop-command.command = search rules in
    (plays_all (told_of c.args.sqs.now c.args.cqs.now) start h c.args.warnings.now.items c.args.script.now c.loop-command.command c.loop-command.table c.loop-command.warnings.items over (c.loop-command.invariant.plays start h st)).0

pub returns-clause-stands : goal.returns-clause-stands
returns-clause-stands c = λ start h st.
    let over : length c.args.script.now ≤ c.loop-command.command = search rules in
    (plays_all (told_of c.args.sqs.now c.args.cqs.now) start h c.args.warnings.now.items c.args.script.now c.loop-command.command c.loop-command.table c.loop-command.warnings.items over (c.loop-command.invariant.plays start h st)).1
