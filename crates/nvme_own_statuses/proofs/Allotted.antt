-- No more queues are allotted than at the pick of a command, and a Create is refused as Invalid Queue Identifier where its own isn't free.
use Rattle.std.proofs.Common.{◌≡◌, ℕ, ◌+◌, ◌<◌, ◌≤◌, ◌==◌, ◌&&◌, ◌||◌, nat_lt, Bool, true, false, not, if◌then◌else◌, List, [], ◌∷◌, ◌++◌, Option, Some, None, is_some, is_none, refl, sym, subst, arith, inl, inr}
use Rattle.std.proofs.lemmas.Bool.{cases_eq, eq-eqb, ne_eqb}
use Rattle.nvme_entry.specs.Status.{StatusCode, success, invalid_field, invalid_queue_identifier, invalid_queue_size}
use Rattle.nvme_entry.specs.Checks.{first_failed}
use Rattle.nvme_entry.specs.Submission.{fuse_of}
use Rattle.nvme_entry.specs.AdminCommand.{admin_command_of}
use Rattle.nvme_entry.specs.declared.submission.Sqe.{Sqe}
use Rattle.nvme_entry.specs.declared.admin.AdminCommand.{AdminCommand}
use Rattle.nvme_entry.specs.declared.admin.AdminCommand.TheVariants.{CreateCq}
use Rattle.nvme_arbiter.specs.declared.pick.Pick.{Pick}
use Rattle.nvme_arbiter.specs.declared.pick.Seen.{Seen}
use Rattle.nvme_admin.specs.History.{Start, TableHistory, Placing}
use Rattle.nvme_admin.specs.Placing.{prp_offset_invalid, invalid_interrupt_vector, vector_of, is_aligned}
use Rattle.nvme_admin.specs.QueueTable.{QueueTable}
use Rattle.nvme_admin.specs.Checks.{is_free, rows_of, placing_rows_of, placing_rows, status_over}
use Rattle.nvme_admin.specs.Accepted.{queue_table, cq_at, status_of}
use Rattle.nvme_admin.specs.declared.bounds.TheConstants.{MAX_QSIZE}
use Rattle.nvme_log.specs.declared.event.Event.{Event}
use Rattle.nvme_log.specs.declared.event.Event.TheVariants as event
use Rattle.nvme_log.specs.Rules.{FrontRules, Past}
use Rattle.nvme_log.specs.Places.{picked}
use Rattle.nvme_log.specs.Histories.{table_history}
use Rattle.nvme_log.specs.Completions.{table_before}
use Rattle.nvme_ctrl_log.proofs.TakenCommands.{IsSound, sound-before}
use Rattle.nvme_audit.specs.Answers.{is_specific}
use Rattle.nvme_own_log.proofs.AdminTurns.{TakesNext, takes_next, takes_other}

module _ (rules : FrontRules) (count : QueueTable → ℕ)
    (fewer : (e : Event) (past : Past) → count (queue_table rules.start (table_history rules (e ∷ past))) ≤ count (queue_table rules.start (table_history rules past))) where
  abbrev AreFewer : Past → Type 0
  AreFewer past = (k : ℕ) → k < picked past 0 → count (queue_table rules.start (table_history rules past)) ≤ count (queue_table rules.start (table_before rules past k))

  fewer_pick : (past : Past) (seen : List Seen) (pick : Pick) → IsSound rules (event.Pick seen pick ∷ past) → AreFewer past → AreFewer (event.Pick seen pick ∷ past)
  fewer_pick past seen pick s before k lt = elim (cases_eq pick.qid 0) [
    | inr io ↦ old (rw (ne_eqb pick.qid 0 io) refl) (omega (arith, lt, takes_other rules past seen pick s io))
    | inl z ↦
        let next : TakesNext rules past seen pick = takes_next rules past seen pick s z in
        elim (cases_eq k (picked past 0)) [
          | inl here ↦
              let now : table_before rules (event.Pick seen pick ∷ past) k ≡ table_history rules past = rw (eq-eqb pick.qid 0 z, next.oldest, eq-eqb (picked past 0) k (sym here)) refl in
              subst (λ (t : TableHistory). count (queue_table rules.start (table_history rules (event.Pick seen pick ∷ past))) ≤ count (queue_table rules.start t)) (sym now) (fewer (event.Pick seen pick) past)
          | inr other ↦ old (rw (eq-eqb pick.qid 0 z, next.oldest, ne_eqb (picked past 0) k (λ e. other (sym e))) refl) (omega (arith, lt, other, next.one_more))
        ]
  ] where
    old : table_before rules (event.Pick seen pick ∷ past) k ≡ table_before rules past k → k < picked past 0
        → count (queue_table rules.start (table_history rules (event.Pick seen pick ∷ past))) ≤ count (queue_table rules.start (table_before rules (event.Pick seen pick ∷ past) k))
    old same few =
        let fewer_then = before k few in
        subst (λ (t : TableHistory). count (queue_table rules.start (table_history rules (event.Pick seen pick ∷ past))) ≤ count (queue_table rules.start t)) (sym same) (omega (arith, fewer_then, fewer (event.Pick seen pick) past))

  pub fewer_at : (past : Past) → IsSound rules past → AreFewer past
  fewer_at [] s k lt = absurd (omega (arith, lt))
  fewer_at (event.Pick seen pick ∷ past) s k lt = fewer_pick past seen pick s (fewer_at past (sound-before rules (event.Pick seen pick) past s)) k lt
  fewer_at (e ∷ past) s k lt = (let before = fewer_at past (sound-before rules e past s) k lt in omega (arith, before, fewer e past))

-- ---- the rows of a Create
skip : (b : Bool) (status rest : StatusCode) → is_specific status 0x01 ≡ false → is_specific (if b then status else rest) 0x01 ≡ true → is_specific rest 0x01 ≡ true
skip true status rest other h = cc (other, h)
skip false status rest other h = h

take : (b : Bool) (rest : StatusCode) → is_specific rest 0x01 ≡ false → is_specific (if b then invalid_queue_identifier else rest) 0x01 ≡ true → b ≡ true
take true rest other h = refl
take false rest other h = cc (other, h)

last : (c d : Bool) → is_specific (if c then invalid_queue_size else (if d then invalid_field else success)) 0x01 ≡ false
last true d = refl
last false true = refl
last false false = refl

rows_refuse : (t : QueueTable) (q qsize prp1 : ℕ) (pc : Bool) → is_specific (first_failed (rows_of t (CreateCq q qsize prp1 pc))) 0x01 ≡ true → (q == 0 || nat_lt t.ncq q || is_some (t.cq q)) ≡ true
rows_refuse t q qsize prp1 pc h = take (q == 0 || nat_lt t.ncq q || is_some (t.cq q)) _ (last (qsize == 0 || nat_lt MAX_QSIZE qsize) (is_none t.placing && not (is_free t.cq_regions t.cq_region_used prp1 (qsize + 1)))) (skip (not pc) invalid_field _ refl h)

placed_refuse : (t : QueueTable) (p : Placing) (entry : Sqe) (q qsize prp1 : ℕ) (pc : Bool) → is_specific (first_failed (placing_rows_of p entry (CreateCq q qsize prp1 pc) ++ rows_of t (CreateCq q qsize prp1 pc))) 0x01 ≡ true → (q == 0 || nat_lt t.ncq q || is_some (t.cq q)) ≡ true
placed_refuse t p entry q qsize prp1 pc h =
    let one : is_specific (if not (is_aligned p.page prp1) then prp_offset_invalid else (if not (nat_lt (vector_of entry) p.vectors) then invalid_interrupt_vector else first_failed (rows_of t (CreateCq q qsize prp1 pc)))) 0x01 ≡ true = skip (nat_lt p.mqes qsize) invalid_queue_size _ refl h in
    let two : is_specific (if not (nat_lt (vector_of entry) p.vectors) then invalid_interrupt_vector else first_failed (rows_of t (CreateCq q qsize prp1 pc))) 0x01 ≡ true = skip (not (is_aligned p.page prp1)) prp_offset_invalid _ refl one in
    rows_refuse t q qsize prp1 pc (skip (not (nat_lt (vector_of entry) p.vectors)) invalid_interrupt_vector _ refl two)

over_refuse : (t : QueueTable) (entry : Sqe) (q qsize prp1 : ℕ) (pc : Bool) → admin_command_of entry ≡ CreateCq q qsize prp1 pc → is_specific (status_over t entry) 0x01 ≡ true → (q == 0 || nat_lt t.ncq q || is_some (t.cq q)) ≡ true
over_refuse t entry q qsize prp1 pc is h = by (not (fuse_of entry == 0)) t.placing h where
  by : (f : Bool) (o : Option Placing) → is_specific (if f then invalid_field else first_failed (placing_rows o entry ++ rows_of t (admin_command_of entry))) 0x01 ≡ true → (q == 0 || nat_lt t.ncq q || is_some (t.cq q)) ≡ true
  by true o e = cc e
  by false None e = rows_refuse t q qsize prp1 pc (subst (λ (c : AdminCommand). is_specific (first_failed (rows_of t c)) 0x01 ≡ true) is e)
  by false (Some p) e = placed_refuse t p entry q qsize prp1 pc (subst (λ (c : AdminCommand). is_specific (first_failed (placing_rows_of p entry c ++ rows_of t c)) 0x01 ≡ true) is e)

pub create_refused : (start : Start) (h : TableHistory) (entry : Sqe) (q qsize prp1 : ℕ) (pc : Bool) → admin_command_of entry ≡ CreateCq q qsize prp1 pc → is_specific (status_of start h entry) 0x01 ≡ true
    → (q == 0 || nat_lt (queue_table start h).ncq q || is_some (cq_at start h q)) ≡ true
unfolding status_of
create_refused start h entry q qsize prp1 pc is e = over_refuse (queue_table start h) entry q qsize prp1 pc is e
