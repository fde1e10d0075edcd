-- Admin commands that are played one by one, and the regions that they leave unused.
use Rattle.std.proofs.Common.{◌≡◌, ℕ, suc, ◌+◌, ◌<◌, ◌≤◌, Bool, List, [], ◌∷◌, ◌++◌, length, drop, get_or, refl, sym, ap, ◌∙◌, subst, arith, append_assoc}
use Rattle.std.proofs.Math.Seq.{drop-cons}
use Rattle.std.specs.Prelude.{reverse}
use Rattle.std.proofs.lemmas.List.{append-nil, drop_all, reverse-append}
use Rattle.nvme_entry.specs.declared.submission.Sqe.{Sqe}
use Rattle.nvme_admin.specs.History.{Start, TableHistory}
use Rattle.nvme_admin.specs.Accepted.{queue_table, status_of}
use Rattle.nvme_admin.specs.Standing.{TableView, StandsAt}
use Rattle.nvme_workload.specs.declared.plan.SqPlan.{SqPlan}
use Rattle.nvme_workload.specs.declared.plan.CqPlan.{CqPlan}
use Rattle.nvme_lint.specs.Warnings.{history_after, history_of, Telling, of_commands, warning_unless, unused_sqs, unused_cqs, of_script, of_scripts}
use Rattle.nvme_lint.specs.declared.warning.Warning.{Warning}
use Rattle.nvme_lint.specs.declared.warning.Warning.TheVariants.{Unused}
use Rattle.nvme_lint.specs.declared.warning.Kind.TheVariants as kind

-- ---- from the front
-- the same, of commands and regions that are still to come, the first of which has this number
abbrev pub history_then : Start → TableHistory → List Sqe → TableHistory
history_then start h [] = h
history_then start h (entry ∷ script) = history_then start (history_after start h entry) script

abbrev pub commands_then : Telling → Start → TableHistory → ℕ → List Sqe → List Warning
commands_then tell start h number [] = []
commands_then tell start h number (entry ∷ script) =
    tell (queue_table start h) number entry (status_of start h entry) ++ commands_then tell start (history_after start h entry) (suc number) script

abbrev pub sqs_then : (ℕ → Bool) → ℕ → List SqPlan → List Warning
sqs_then used number [] = []
sqs_then used number (region ∷ regions) =
    warning_unless (used number) (Unused kind.Submission number (length region.script)) ++ sqs_then used (suc number) regions

abbrev pub cqs_then : (ℕ → Bool) → ℕ → List CqPlan → List Warning
cqs_then used number [] = []
cqs_then used number (region ∷ regions) =
    warning_unless (used number) (Unused kind.Completion number 0) ++ cqs_then used (suc number) regions

-- the first of what is still to come is the latest of what came
first_moves : {X : Type 0} (x : X) (xs earlier : List X) → reverse (x ∷ xs) ++ earlier ≡ reverse xs ++ x ∷ earlier
first_moves x xs earlier =
    ap (λ ys. ys ++ earlier) (reverse-append (x ∷ []) xs) ∙ append_assoc (reverse xs) (x ∷ []) earlier

-- what comes after what came, together
history_from : (start : Start) (h : TableHistory) (script earlier : List Sqe)
    → history_then start (history_of start h earlier) script ≡ history_of start h (reverse script ++ earlier)
unfolding history_of
history_from start h [] earlier = refl
history_from start h (entry ∷ script) earlier =
    history_from start h script (entry ∷ earlier) ∙ ap (λ es. history_of start h es) (sym (first_moves entry script earlier))

commands_from : (tell : Telling) (start : Start) (h : TableHistory) (script earlier : List Sqe)
    → of_commands tell start h earlier ++ commands_then tell start (history_of start h earlier) (length earlier) script ≡ of_commands tell start h (reverse script ++ earlier)
unfolding history_of of_commands
commands_from tell start h [] earlier = append-nil (of_commands tell start h earlier)
commands_from tell start h (entry ∷ script) earlier =
    let now : TableHistory = history_of start h earlier in
    sym (append_assoc (of_commands tell start h earlier) (tell (queue_table start now) (length earlier) entry (status_of start now entry))
    (commands_then tell start (history_after start now entry) (suc (length earlier)) script))
    ∙ commands_from tell start h script (entry ∷ earlier) ∙ ap (λ es. of_commands tell start h es) (sym (first_moves entry script earlier))

sqs_from : (used : ℕ → Bool) (plans earlier : List SqPlan)
    → unused_sqs used earlier ++ sqs_then used (length earlier) plans ≡ unused_sqs used (reverse plans ++ earlier)
unfolding unused_sqs
sqs_from used [] earlier = append-nil (unused_sqs used earlier)
sqs_from used (region ∷ plans) earlier =
    sym (append_assoc (unused_sqs used earlier) (warning_unless (used (length earlier)) (Unused kind.Submission (length earlier) (length region.script)))
    (sqs_then used (suc (length earlier)) plans))
    ∙ sqs_from used plans (region ∷ earlier) ∙ ap (λ rs. unused_sqs used rs) (sym (first_moves region plans earlier))

cqs_from : (used : ℕ → Bool) (plans earlier : List CqPlan)
    → unused_cqs used earlier ++ cqs_then used (length earlier) plans ≡ unused_cqs used (reverse plans ++ earlier)
unfolding unused_cqs
cqs_from used [] earlier = append-nil (unused_cqs used earlier)
cqs_from used (region ∷ plans) earlier =
    sym (append_assoc (unused_cqs used earlier) (warning_unless (used (length earlier)) (Unused kind.Completion (length earlier) 0))
    (cqs_then used (suc (length earlier)) plans))
    ∙ cqs_from used plans (region ∷ earlier) ∙ ap (λ rs. unused_cqs used rs) (sym (first_moves region plans earlier))

-- where nothing came before, they are all
pub history_all : (start : Start) (h : TableHistory) (script : List Sqe) → history_then start h script ≡ history_of start h (reverse script)
unfolding history_of
history_all start h script = history_from start h script [] ∙ ap (λ es. history_of start h es) (append-nil (reverse script))

commands_all : (tell : Telling) (start : Start) (h : TableHistory) (script : List Sqe) → commands_then tell start h 0 script ≡ of_commands tell start h (reverse script)
unfolding history_of of_commands
commands_all tell start h script = commands_from tell start h script [] ∙ ap (λ es. of_commands tell start h es) (append-nil (reverse script))

pub sqs_are_all : (used : ℕ → Bool) (plans : List SqPlan) → sqs_then used 0 plans ≡ unused_sqs used (reverse plans)
unfolding unused_sqs
sqs_are_all used plans = sqs_from used plans [] ∙ ap (λ rs. unused_sqs used rs) (append-nil (reverse plans))

pub cqs_are_all : (used : ℕ → Bool) (plans : List CqPlan) → cqs_then used 0 plans ≡ unused_cqs used (reverse plans)
unfolding unused_cqs
cqs_are_all used plans = cqs_from used plans [] ∙ ap (λ rs. unused_cqs used rs) (append-nil (reverse plans))

-- ---- commands that are played
-- a table stands at a history after the commands before this number, and these warnings are those of these commands: what is left of the
-- script leads from there to the same warnings and to the same history
pub record Plays (tell : Telling) (start : Start) (h : TableHistory) (before : List Warning) (script : List Sqe) (number : ℕ) (table : TableView) (warnings : List Warning) : Type 0 where
  pub now : TableHistory
  pub stands : StandsAt start table now
  pub told : warnings ++ commands_then tell start now number (drop number script) ≡ before ++ commands_then tell start h 0 script
  pub history : history_then start now (drop number script) ≡ history_then start h script

-- what stands where there is no command
abbrev pub no_entry : Sqe
no_entry = record { opcode = 0; flags = 0; cid = 0; nsid = 0; cdw2 = 0; cdw3 = 0; mptr = 0; prp1 = 0; prp2 = 0; cdw10 = 0; cdw11 = 0; cdw12 = 0; cdw13 = 0; cdw14 = 0; cdw15 = 0 }

-- the next number
next : (i : ℕ) → i + 1 ≡ suc i
next i = omega arith

-- the first command of what is left is played
pub plays_one : (tell : Telling) (start : Start) (h : TableHistory) (before : List Warning) (script : List Sqe) (number : ℕ) (d : Sqe) (old new : TableView) (warnings told : List Warning)
    → number < length script → (p : Plays tell start h before script number old warnings)
    → StandsAt start new (history_after start p.now (get_or script number d)) → told ≡ warnings ++ tell (queue_table start p.now) number (get_or script number d) (status_of start p.now (get_or script number d))
    → Plays tell start h before script (number + 1) new told
plays_one tell start h before script number d old new warnings told there p stands more =
    let entry = get_or script number d in
    let later = history_after start p.now entry in
    record {
      now = later;
      stands = stands;
      told = ap (λ n. told ++ commands_then tell start later n (drop n script)) (next number)
          ∙ ap (λ ws. ws ++ commands_then tell start later (suc number) (drop (suc number) script)) more
          ∙ append_assoc warnings (tell (queue_table start p.now) number entry (status_of start p.now entry)) (commands_then tell start later (suc number) (drop (suc number) script))
          ∙ sym (ap (λ es. warnings ++ commands_then tell start p.now number es) (drop-cons script number d there))
          ∙ p.told;
      history = ap (λ n. history_then start later (drop n script)) (next number) ∙ sym (ap (λ es. history_then start p.now es) (drop-cons script number d there)) ∙ p.history;
    }

-- nothing is played at first
pub plays_none : (tell : Telling) (start : Start) (h : TableHistory) (before : List Warning) (script : List Sqe) (table : TableView) → StandsAt start table h → Plays tell start h before script 0 table before
plays_none tell start h before script table stands = record { now = h; stands = stands; told = refl; history = refl }

-- where nothing is left, all is played
pub plays_all : (tell : Telling) (start : Start) (h : TableHistory) (before : List Warning) (script : List Sqe) (number : ℕ) (table : TableView) (warnings : List Warning)
    → length script ≤ number → Plays tell start h before script number table warnings
    → (warnings ≡ before ++ of_commands tell start h (reverse script)) × StandsAt start table (history_of start h (reverse script))
plays_all tell start h before script number table warnings over p =
    let none = drop_all number script over in (
      sym (append-nil warnings) ∙ sym (ap (λ es. warnings ++ commands_then tell start p.now number es) none) ∙ p.told ∙ ap (λ ws. before ++ ws) (commands_all tell start h script),
      subst (λ (g : TableHistory). StandsAt start table g) (sym (ap (λ es. history_then start p.now es) none) ∙ p.history ∙ history_all start h script) p.stands,
    )

-- ---- regions
-- a submission region more
pub sqs_one : (used : ℕ → Bool) (plans : List SqPlan) (i : ℕ) (d : SqPlan) (before warnings told : List Warning) → i < length plans
    → told ≡ warnings ++ warning_unless (used i) (Unused kind.Submission i (length (get_or plans i d).script))
    → warnings ++ sqs_then used i (drop i plans) ≡ before ++ sqs_then used 0 plans → told ++ sqs_then used (i + 1) (drop (i + 1) plans) ≡ before ++ sqs_then used 0 plans
sqs_one used plans i d before warnings told there more was =
    ap (λ n. told ++ sqs_then used n (drop n plans)) (next i)
    ∙ ap (λ ws. ws ++ sqs_then used (suc i) (drop (suc i) plans)) more
    ∙ append_assoc warnings (warning_unless (used i) (Unused kind.Submission i (length (get_or plans i d).script))) (sqs_then used (suc i) (drop (suc i) plans))
    ∙ sym (ap (λ rs. warnings ++ sqs_then used i rs) (drop-cons plans i d there))
    ∙ was

pub sqs_all : (used : ℕ → Bool) (plans : List SqPlan) (i : ℕ) (before warnings : List Warning) → length plans ≤ i
    → warnings ++ sqs_then used i (drop i plans) ≡ before ++ sqs_then used 0 plans → warnings ≡ before ++ unused_sqs used (reverse plans)
sqs_all used plans i before warnings over was =
    sym (append-nil warnings) ∙ sym (ap (λ rs. warnings ++ sqs_then used i rs) (drop_all i plans over)) ∙ was ∙ ap (λ ws. before ++ ws) (sqs_are_all used plans)

-- a completion region more
pub cqs_one : (used : ℕ → Bool) (plans : List CqPlan) (i : ℕ) (before warnings told : List Warning) → i < length plans
    → told ≡ warnings ++ warning_unless (used i) (Unused kind.Completion i 0)
    → warnings ++ cqs_then used i (drop i plans) ≡ before ++ cqs_then used 0 plans → told ++ cqs_then used (i + 1) (drop (i + 1) plans) ≡ before ++ cqs_then used 0 plans
cqs_one used plans i before warnings told there more was =
    ap (λ n. told ++ cqs_then used n (drop n plans)) (next i)
    ∙ ap (λ ws. ws ++ cqs_then used (suc i) (drop (suc i) plans)) more
    ∙ append_assoc warnings (warning_unless (used i) (Unused kind.Completion i 0)) (cqs_then used (suc i) (drop (suc i) plans))
    ∙ sym (ap (λ rs. warnings ++ cqs_then used i rs) (drop-cons plans i (record { address = 0; slots = 0 }) there))
    ∙ was

pub cqs_all : (used : ℕ → Bool) (plans : List CqPlan) (i : ℕ) (before warnings : List Warning) → length plans ≤ i
    → warnings ++ cqs_then used i (drop i plans) ≡ before ++ cqs_then used 0 plans → warnings ≡ before ++ unused_cqs used (reverse plans)
cqs_all used plans i before warnings over was =
    sym (append-nil warnings) ∙ sym (ap (λ rs. warnings ++ cqs_then used i rs) (drop_all i plans over)) ∙ was ∙ ap (λ ws. before ++ ws) (cqs_are_all used plans)

-- ---- scripts
-- the warnings of scripts that are still to come, the first of which is of the region of this number
abbrev pub scripts_then : List ℕ → (ℕ → Bool) → ℕ → List SqPlan → List Warning
scripts_then sizes used number [] = []
scripts_then sizes used number (region ∷ regions) = of_script sizes (used number) number region ++ scripts_then sizes used (suc number) regions

scripts_from : (sizes : List ℕ) (used : ℕ → Bool) (plans earlier : List SqPlan)
    → of_scripts sizes used earlier ++ scripts_then sizes used (length earlier) plans ≡ of_scripts sizes used (reverse plans ++ earlier)
unfolding of_scripts
scripts_from sizes used [] earlier = append-nil (of_scripts sizes used earlier)
scripts_from sizes used (region ∷ plans) earlier =
    sym (append_assoc (of_scripts sizes used earlier) (of_script sizes (used (length earlier)) (length earlier) region)
    (scripts_then sizes used (suc (length earlier)) plans))
    ∙ scripts_from sizes used plans (region ∷ earlier) ∙ ap (λ rs. of_scripts sizes used rs) (sym (first_moves region plans earlier))

pub scripts_are_all : (sizes : List ℕ) (used : ℕ → Bool) (plans : List SqPlan) → scripts_then sizes used 0 plans ≡ of_scripts sizes used (reverse plans)
unfolding of_scripts
scripts_are_all sizes used plans = scripts_from sizes used plans [] ∙ ap (λ rs. of_scripts sizes used rs) (append-nil (reverse plans))

-- a script more
pub scripts_one : (sizes : List ℕ) (used : ℕ → Bool) (plans : List SqPlan) (i : ℕ) (d : SqPlan) (before warnings told : List Warning) → i < length plans
    → told ≡ warnings ++ of_script sizes (used i) i (get_or plans i d)
    → warnings ++ scripts_then sizes used i (drop i plans) ≡ before ++ scripts_then sizes used 0 plans
    → told ++ scripts_then sizes used (i + 1) (drop (i + 1) plans) ≡ before ++ scripts_then sizes used 0 plans
scripts_one sizes used plans i d before warnings told there more was =
    ap (λ n. told ++ scripts_then sizes used n (drop n plans)) (next i)
    ∙ ap (λ ws. ws ++ scripts_then sizes used (suc i) (drop (suc i) plans)) more
    ∙ append_assoc warnings (of_script sizes (used i) i (get_or plans i d)) (scripts_then sizes used (suc i) (drop (suc i) plans))
    ∙ sym (ap (λ rs. warnings ++ scripts_then sizes used i rs) (drop-cons plans i d there))
    ∙ was

pub scripts_all : (sizes : List ℕ) (used : ℕ → Bool) (plans : List SqPlan) (i : ℕ) (before warnings : List Warning) → length plans ≤ i
    → warnings ++ scripts_then sizes used i (drop i plans) ≡ before ++ scripts_then sizes used 0 plans
    → warnings ≡ before ++ of_scripts sizes used (reverse plans)
scripts_all sizes used plans i before warnings over was =
    sym (append-nil warnings) ∙ sym (ap (λ rs. warnings ++ scripts_then sizes used i rs) (drop_all i plans over)) ∙ was
    ∙ ap (λ ws. before ++ ws) (scripts_are_all sizes used plans)
