-- What a Create of a submission queue, and a Delete of a completion queue, is refused for.
use Rattle.std.proofs.Common.{◌≡◌, ℕ, ◌+◌, ◌==◌, ◌&&◌, ◌||◌, nat_lt, Bool, true, false, not, if◌then◌else◌, List, [], ◌∷◌, ◌++◌, Option, Some, None, is_some, is_none, refl, subst, ◌⊎◌, inl, inr}
use Rattle.nvme_entry.specs.Status.{StatusCode, success, invalid_field, invalid_queue_identifier, invalid_queue_size, invalid_queue_deletion, completion_queue_invalid}
use Rattle.nvme_entry.specs.Checks.{Check, first_failed}
use Rattle.nvme_entry.specs.Submission.{fuse_of}
use Rattle.nvme_entry.specs.AdminCommand.{admin_command_of}
use Rattle.nvme_entry.specs.declared.submission.Sqe.{Sqe}
use Rattle.nvme_entry.specs.declared.admin.AdminCommand.{AdminCommand}
use Rattle.nvme_entry.specs.declared.admin.AdminCommand.TheVariants.{CreateSq, DeleteCq}
use Rattle.nvme_admin.specs.History.{Start, TableHistory, Placing}
use Rattle.nvme_admin.specs.QueueTable.{QueueTable}
use Rattle.nvme_admin.specs.Checks.{is_free, is_attached, rows_of, placing_rows_of, placing_rows, status_over}
use Rattle.nvme_admin.specs.Accepted.{queue_table, status_of}
use Rattle.nvme_admin.specs.declared.bounds.TheConstants.{MAX_QSIZE}
use Rattle.nvme_audit.specs.Answers.{is_specific}

-- ---- rows of checks
module _ (sc : ℕ) where
  -- a row of another status isn't the first that fails
  skip : (b : Bool) (status rest : StatusCode) → is_specific status sc ≡ false → is_specific (if b then status else rest) sc ≡ true → is_specific rest sc ≡ true
  skip true status rest other h = cc (other, h)
  skip false status rest other h = h

  -- this one is, or one behind it
  this_or : (b : Bool) (status rest : StatusCode) → is_specific (if b then status else rest) sc ≡ true → (b ≡ true) ⊎ (is_specific rest sc ≡ true)
  this_or true status rest h = inl refl
  this_or false status rest h = inr h

  abbrev AllOther : List Check → Type 0
  AllOther [] = Unit {0}
  AllOther (r ∷ rows) = (is_specific r.status sc ≡ false) × AllOther rows

  behind : (rows more : List Check) → AllOther rows → is_specific (first_failed (rows ++ more)) sc ≡ true → is_specific (first_failed more) sc ≡ true
  behind [] more other h = h
  behind (r ∷ rows) more other h = behind rows more other.1 (skip r.fails r.status (first_failed (rows ++ more)) other.0 h)

  -- a command's own rows have the status, where no other row has
  own_rows : (c : AdminCommand) → is_specific invalid_field sc ≡ false → ((p : Placing) (entry : Sqe) → AllOther (placing_rows_of p entry c)) → (t : QueueTable) (entry : Sqe) → admin_command_of entry ≡ c
      → is_specific (status_over t entry) sc ≡ true → is_specific (first_failed (rows_of t c)) sc ≡ true
  own_rows c field others t entry is h = by (not (fuse_of entry == 0)) t.placing h where
    by : (b : Bool) (o : Option Placing) → is_specific (if b then invalid_field else first_failed (placing_rows o entry ++ rows_of t (admin_command_of entry))) sc ≡ true → is_specific (first_failed (rows_of t c)) sc ≡ true
    by true o e = cc (field, e)
    by false None e = subst (λ (x : AdminCommand). is_specific (first_failed (rows_of t x)) sc ≡ true) is e
    by false (Some p) e = behind (placing_rows_of p entry c) (rows_of t c) (others p entry) (subst (λ (x : AdminCommand). is_specific (first_failed (placing_rows_of p entry x ++ rows_of t x)) sc ≡ true) is e)

-- ---- Create I/O Submission Queue
module _ (start : Start) (h : TableHistory) (entry : Sqe) (q qsize prp1 cqid qprio : ℕ) (pc : Bool) (is : admin_command_of entry ≡ CreateSq q qsize prp1 cqid qprio pc) where
  abbrev t : QueueTable
  t = queue_table start h

  -- as Invalid Queue Identifier: its own is in use or none that is allotted, or its completion queue's is none
  pub sq_unnamed : is_specific (status_of start h entry) 0x01 ≡ true → ((q == 0 || nat_lt t.nsq q || is_some (t.sq q)) ≡ true) ⊎ ((cqid == 0 || nat_lt t.ncq cqid) ≡ true)
  unfolding status_of
  sq_unnamed e =
      let rows = own_rows 0x01 (CreateSq q qsize prp1 cqid qprio pc) refl (λ p x. (refl, (refl, tt))) t entry is e in
      let one = skip 0x01 (not pc) invalid_field _ refl rows in
      elim (this_or 0x01 (q == 0 || nat_lt t.nsq q || is_some (t.sq q)) invalid_queue_identifier _ one) [
        | inl own ↦ inl own
        | inr rest ↦
            let two = skip 0x01 (qsize == 0 || nat_lt MAX_QSIZE qsize) invalid_queue_size _ refl rest in
            elim (this_or 0x01 (cqid == 0 || nat_lt t.ncq cqid) invalid_queue_identifier _ two) [
              | inl to ↦ inr to
              | inr more ↦
                  let three = skip 0x01 (is_none (t.cq cqid)) completion_queue_invalid _ refl more in
                  let four = skip 0x01 (is_none t.placing && not (is_free t.sq_regions t.sq_region_used prp1 (qsize + 1))) invalid_field success refl three in
                  absurd (cc four)
            ]
      ]

  -- as Completion Queue Invalid: that isn't open
  pub sq_unattached : is_specific (status_of start h entry) 0x00 ≡ true → is_none (t.cq cqid) ≡ true
  unfolding status_of
  sq_unattached e =
      let rows = own_rows 0x00 (CreateSq q qsize prp1 cqid qprio pc) refl (λ p x. (refl, (refl, tt))) t entry is e in
      let one = skip 0x00 (not pc) invalid_field _ refl rows in
      let two = skip 0x00 (q == 0 || nat_lt t.nsq q || is_some (t.sq q)) invalid_queue_identifier _ refl one in
      let three = skip 0x00 (qsize == 0 || nat_lt MAX_QSIZE qsize) invalid_queue_size _ refl two in
      let four = skip 0x00 (cqid == 0 || nat_lt t.ncq cqid) invalid_queue_identifier _ refl three in
      elim (this_or 0x00 (is_none (t.cq cqid)) completion_queue_invalid _ four) [
        | inl closed ↦ closed
        | inr more ↦ absurd (let five = skip 0x00 (is_none t.placing && not (is_free t.sq_regions t.sq_region_used prp1 (qsize + 1))) invalid_field success refl more in cc five)
      ]

-- ---- Delete I/O Completion Queue
module _ (start : Start) (h : TableHistory) (entry : Sqe) (q : ℕ) (is : admin_command_of entry ≡ DeleteCq q) where
  abbrev table : QueueTable
  table = queue_table start h

  -- as Invalid Queue Identifier: it isn't open
  pub cq_unnamed : is_specific (status_of start h entry) 0x01 ≡ true → (q == 0 || is_none (table.cq q)) ≡ true
  unfolding status_of
  cq_unnamed e =
      let rows = own_rows 0x01 (DeleteCq q) refl (λ p x. tt) table entry is e in
      elim (this_or 0x01 (q == 0 || is_none (table.cq q)) invalid_queue_identifier _ rows) [
        | inl none ↦ none
        | inr more ↦ absurd (let two = skip 0x01 (is_attached table q) invalid_queue_deletion success refl more in cc two)
      ]

  -- as Invalid Queue Deletion: a submission queue is attached to it
  pub cq_attached : is_specific (status_of start h entry) 0x0c ≡ true → is_attached table q ≡ true
  unfolding status_of
  cq_attached e =
      let rows = own_rows 0x0c (DeleteCq q) refl (λ p x. tt) table entry is e in
      let one = skip 0x0c (q == 0 || is_none (table.cq q)) invalid_queue_identifier _ refl rows in
      elim (this_or 0x0c (is_attached table q) invalid_queue_deletion success one) [
        | inl on_it ↦ on_it
        | inr more ↦ absurd (cc more)
      ]
