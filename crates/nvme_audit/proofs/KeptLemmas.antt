-- When nothing is said of an event: each check passes. And what keeps that so where the facts change.
use Rattle.std.proofs.Common.{◌≡◌, inl, inr, ℕ, ◌+◌, ◌%◌, ◌≤◌, ◌==◌, ◌&&◌, ◌||◌, not, nat_le, nat_lt, Bool, true, false, if◌then◌else◌, [], ◌∷◌, Option, None, Some, is_some, is_none, refl, sym, subst, ap, ◌∙◌, arith}
use Rattle.std.proofs.lemmas.Bool.{eqb-true, eq-eqb, leb-true, ltb-true, le-leb, lt-ltb}
use Rattle.nvme_entry.specs.Status.{StatusCode}
use Rattle.nvme_entry.specs.declared.admin.AdminCommand.{AdminCommand}
use Rattle.nvme_entry.specs.declared.admin.AdminCommand.TheVariants.{DeleteSq, CreateSq, DeleteCq, CreateCq, Abort, SetFeatures, GetFeatures, Other}
use Rattle.nvme_audit.specs.declared.event.Event.TheVariants.{Tail, Head, Fetch, Post}
use Rattle.nvme_audit.specs.declared.event.Completion.{Completion}
use Rattle.nvme_audit.specs.declared.facts.Start.{Start}
use Rattle.nvme_audit.specs.declared.facts.Tells.{Tells}
use Rattle.nvme_audit.specs.declared.facts.Ring.{Ring}
use Rattle.nvme_audit.specs.declared.facts.Sq.{Sq}
use Rattle.nvme_audit.specs.declared.facts.Cq.{Cq}
use Rattle.nvme_audit.specs.declared.facts.Admin.{Admin}
use Rattle.nvme_audit.specs.declared.facts.Command.{Command}
use Rattle.nvme_audit.specs.declared.verdict.Verdict.{Verdict}
use Rattle.nvme_audit.specs.declared.verdict.Verdict.TheVariants.{Kept, Host, Broken}
use Rattle.nvme_audit.specs.declared.verdict.Rule.{Rule}
use Rattle.nvme_audit.specs.declared.verdict.Rule.TheVariants as rule
use Rattle.nvme_audit.specs.declared.verdict.Breach.TheVariants.{TailRange, TailFull, HeadRange, CidReused}
use Rattle.nvme_audit.specs.Lives.{Past, asked, turns_sq, is_success, done_by, done}
use Rattle.nvme_audit.specs.Queues.{ring_by, deletes_sq, ring_of, was_deleted}
use Rattle.nvme_audit.specs.Rings.{advanced, gap, slots_of, phase_of, submitted, fetched, posted, consumed, number_of}
use Rattle.nvme_audit.specs.Turns.{sq_named, cq_named, cid_named, number_of_queues, answered_by, told_first, numbers_by, numbers}
use Rattle.nvme_audit.specs.Aborts.{stirred, was_named, is_abort, is_aborted, says_aborted, told_of}
use Rattle.nvme_audit.specs.Marks.{mark_for, mark_of, mark_if, owes}
use Rattle.nvme_audit.specs.Host.{tail_rules, head_rules, is_lost, is_sq_excused}
use Rattle.nvme_audit.specs.Facts.{sq_after, cq_after, admin_after, command_with, outstanding}
use Rattle.nvme_audit.specs.Rules.{is_other, is_other_phase, is_head_of, is_other_head, fetch_rules, name_rules, slot_rules, if_kept, post_verdict}
use Rattle.nvme_audit.specs.Answers.{is_foreign, is_specific, is_settled, is_attached, is_sq_within, is_cq_within, are_numbers, is_untrue_of_create_sq, is_untrue_of_create_cq, is_untrue_of_delete_sq, is_untrue_of_delete_cq, is_untrue_of_features, broken_if, status_rules, own_rules, is_undoomed, is_unnamed, is_not_as_told, is_untrue_abort, answered_in, mark_in, answer_verdict}
use Rattle.nvme_audit.specs.Lawful.{verdict, IsFaultlessLog}
use Rattle.nvme_audit.specs.Coverage.{sets_numbers}
use Rattle.nvme_audit.specs.Shows.{IsShown}
use Rattle.nvme_audit.proofs.OnceLemmas.{none_excused, is_ruled}

-- ---- checks in turn
pub not_excused : (excused : Bool) (v : Verdict) → excused ≡ false → (if excused then Kept else v) ≡ Kept → v ≡ Kept
not_excused true v e h = cc
not_excused false v e h = h

pub unless_excused : (excused : Bool) (v : Verdict) → v ≡ Kept → (if excused then Kept else v) ≡ Kept
unless_excused true v h = refl
unless_excused false v h = h

-- a check passes, and those after it
pub passes : (a : Bool) (r : Rule) (rest : Verdict) → (if a then Broken r else rest) ≡ Kept → (a ≡ false) × (rest ≡ Kept)
passes true r rest h = cc
passes false r rest h = (refl, h)

pub pass : (a : Bool) (r : Rule) (rest : Verdict) → a ≡ false → rest ≡ Kept → (if a then Broken r else rest) ≡ Kept
pass true r rest e h = cc
pass false r rest e h = h

-- where a check fails no more than another, what passes that passes it
pub still : (a b : Bool) → (b ≡ true → a ≡ true) → a ≡ false → b ≡ false
still a true f h = let t : true ≡ false = sym (f refl) ∙ h in cc
still a false f h = refl

pub first_kept : (v w : Verdict) → if_kept v w ≡ Kept → (v ≡ Kept) × (w ≡ Kept)
first_kept Kept w h = (refl, h)
first_kept (Host breach) w h = cc
first_kept (Broken rule) w h = cc

pub both_kept : (v w : Verdict) → v ≡ Kept → w ≡ Kept → if_kept v w ≡ Kept
both_kept v w h g = ap (λ (k : Verdict). if_kept k w) h ∙ g

pub both : (a b : Bool) → (a && b) ≡ true → (a ≡ true) × (b ≡ true)
both true b h = (refl, h)
both false b h = cc

pub join : (a b : Bool) → a ≡ true → b ≡ true → (a && b) ≡ true
join true b g h = h
join false b g h = cc

-- ---- fields
pub other_shown : (field shown : Option ℕ) (wanted : ℕ) → IsShown field shown → is_other shown wanted ≡ true → is_other field wanted ≡ true
other_shown field shown wanted s h = elim s [
  | inl n ↦ let t : false ≡ true = sym (ap (λ (f : Option ℕ). is_other f wanted) n) ∙ h in cc
  | inr e ↦ sym (ap (λ (f : Option ℕ). is_other f wanted) e) ∙ h
]

pub phase_shown : (field shown : Option Bool) (wanted : Bool) → IsShown field shown → is_other_phase shown wanted ≡ true → is_other_phase field wanted ≡ true
phase_shown field shown wanted s h = elim s [
  | inl n ↦ let t : false ≡ true = sym (ap (λ (f : Option Bool). is_other_phase f wanted) n) ∙ h in cc
  | inr e ↦ sym (ap (λ (f : Option Bool). is_other_phase f wanted) e) ∙ h
]

-- ---- doorbells
pub tail_still : (qsize : Option ℕ) (far near fetched slot : ℕ) → ((n : ℕ) → qsize ≡ Some n → slot ≤ n → advanced n near slot ≤ advanced n far slot) → tail_rules qsize far fetched slot ≡ Kept → tail_rules qsize near fetched slot ≡ Kept
tail_still None far near fetched slot f h = cc
tail_still (Some n) far near fetched slot f h = go (nat_lt n slot) (nat_lt (fetched + n) (advanced n far slot)) (nat_lt (fetched + n) (advanced n near slot)) refl (λ k e. lt-ltb _ _ (omega (arith, ltb-true _ _ e, f n refl k))) h
  where
    go : (a b c : Bool) → nat_lt n slot ≡ a → (slot ≤ n → c ≡ true → b ≡ true) → (if a then Host TailRange else (if b then Host TailFull else Kept)) ≡ Kept → (if a then Host TailRange else (if c then Host TailFull else Kept)) ≡ Kept
    go true b c e g k = cc
    go false true c e g k = cc
    go false false true e g k = let t : false ≡ true = g (grind arith) refl in cc
    go false false false e g k = refl

pub not_still : (a b : Bool) → (b ≡ true → a ≡ true) → not a ≡ true → not b ≡ true
not_still true b f h = cc
not_still false true f h = let t : false ≡ true = f refl in cc
not_still false false f h = refl

pub head_still : (qsize : Option ℕ) (early now : Bool) (posted far near slot : ℕ) → (early ≡ true → now ≡ true) → ((n : ℕ) → qsize ≡ Some n → slot ≤ n → advanced n near slot ≤ advanced n far slot)
    → head_rules qsize early posted far slot ≡ Kept → head_rules qsize now posted near slot ≡ Kept
head_still None early now posted far near slot m f h = cc
head_still (Some n) early now posted far near slot m f h =
    go (nat_lt n slot) (not early && nat_lt posted (advanced n far slot)) (not now && nat_lt posted (advanced n near slot)) refl
    (λ k e. let u = both (not now) _ e in join (not early) _ (not_still now early m u.0) (lt-ltb _ _ (omega (arith, ltb-true _ _ u.1, f n refl k)))) h
  where
    go : (a b c : Bool) → nat_lt n slot ≡ a → (slot ≤ n → c ≡ true → b ≡ true) → (if a || b then Host HeadRange else Kept) ≡ Kept → (if a || c then Host HeadRange else Kept) ≡ Kept
    go true b c e g k = cc
    go false true c e g k = cc
    go false false true e g k = let t : false ≡ true = g (grind arith) refl in cc
    go false false false e g k = refl

-- a doorbell names a slot
pub tail_fits : (qsize : Option ℕ) (submitted fetched slot : ℕ) → tail_rules qsize submitted fetched slot ≡ Kept → (n : ℕ) → qsize ≡ Some n → slot ≤ n
tail_fits None submitted fetched slot h n e = cc
tail_fits (Some m) submitted fetched slot h n e = let same : m ≡ n = cc in omega (arith, same, go (nat_lt m slot) (nat_lt (fetched + m) (advanced m submitted slot)) refl h)
  where
    go : (a b : Bool) → nat_lt m slot ≡ a → (if a then Host TailRange else (if b then Host TailFull else Kept)) ≡ Kept → slot ≤ m
    go true b k g = cc
    go false b k g = grind arith

pub head_fits : (qsize : Option ℕ) (early : Bool) (posted consumed slot : ℕ) → head_rules qsize early posted consumed slot ≡ Kept → (n : ℕ) → qsize ≡ Some n → slot ≤ n
head_fits None early posted consumed slot h n e = cc
head_fits (Some m) early posted consumed slot h n e = let same : m ≡ n = cc in omega (arith, same, go (nat_lt m slot) (not early && nat_lt posted (advanced m consumed slot)) refl h)
  where
    go : (a b : Bool) → nat_lt m slot ≡ a → (if a || b then Host HeadRange else Kept) ≡ Kept → slot ≤ m
    go true b k g = cc
    go false b k g = grind arith

-- ---- fetches
-- less may be told, or more may have been announced
pub fetch_still : (tells less : Tells) (sq now : Sq) (ring : Option Ring) (slot shown : Option ℕ) (out : Bool)
    → (less.tails ≡ true → (tells.tails ≡ true) × (sq.submitted ≤ now.submitted)) → now.fetched ≡ sq.fetched → IsShown slot shown
    → fetch_rules tells sq ring slot out ≡ Kept → fetch_rules less now ring shown out ≡ Kept
fetch_still tells less sq now None slot shown out f e s h = cc
fetch_still tells less sq now (Some ring) slot shown true f e s h =
    let a = passes (tells.tails && nat_le sq.submitted sq.fetched) rule.FetchBeyondTail _ h in
    let b = passes (is_other slot (sq.fetched % slots_of ring.qsize)) rule.FetchSlot (Host CidReused) a.1 in
    let k : Host CidReused ≡ Kept = b.1 in cc
fetch_still tells less sq now (Some ring) slot shown false f e s h =
    let a = passes (tells.tails && nat_le sq.submitted sq.fetched) rule.FetchBeyondTail _ h in
    let b = passes (is_other slot (sq.fetched % slots_of ring.qsize)) rule.FetchSlot _ a.1 in
    pass _ rule.FetchBeyondTail _
    (still (tells.tails && nat_le sq.submitted sq.fetched) _ (λ k. let t = both _ _ k in let g = f t.0 in join _ _ g.0 (le-leb _ _ (omega (arith, g.1, e, leb-true _ _ t.1)))) a.0)
    (pass _ rule.FetchSlot _ (still (is_other slot (sq.fetched % slots_of ring.qsize)) _ (λ k. other_shown slot shown _ s (ap (λ (n : ℕ). is_other shown (n % slots_of ring.qsize)) (sym e) ∙ k)) b.0) refl)

-- ---- the slot of a completion
pub slot_still : (tells less : Tells) (cq now : Cq) (qsize : Option ℕ) (slot shown : Option ℕ) (phase seen : Option Bool)
    → (less.heads ≡ true → (tells.heads ≡ true) × (cq.consumed ≤ now.consumed)) → now.posted ≡ cq.posted → IsShown slot shown → IsShown phase seen
    → (less.posts ≡ true → tells.posts ≡ true) → now.answered ≤ cq.answered → cq.asked ≤ now.asked → (cq.early ≡ true → now.early ≡ true)
    → slot_rules tells cq qsize slot phase ≡ Kept → slot_rules less now qsize shown seen ≡ Kept
slot_still tells less cq now None slot shown phase seen f e s p posts fewer more m h =
    closed (not tells.posts) (not less.posts) (nat_lt cq.answered cq.asked) (nat_lt now.answered now.asked) (not_still tells.posts less.posts posts) (λ k. lt-ltb _ _ (omega (arith, fewer, more, ltb-true _ _ k))) h
  where
    closed : (a b c d : Bool) → (a ≡ true → b ≡ true) → (c ≡ true → d ≡ true) → (if a || c then Kept else Broken rule.PostClosed) ≡ Kept → (if b || d then Kept else Broken rule.PostClosed) ≡ Kept
    closed true b c d f g k = rw (f refl) refl
    closed false true true d f g k = refl
    closed false false true d f g k = rw (g refl) refl
    closed false b false d f g k = cc
slot_still tells less cq now (Some qsize) slot shown phase seen f e s p posts fewer more m h =
    unless_early cq.early now.early _ _ m h (λ i.
    let a = passes (is_other slot (cq.posted % slots_of qsize)) rule.Slot _ i in
    let b = passes (is_other_phase phase (phase_of qsize cq.posted)) rule.Phase _ a.1 in
    let c = passes (tells.heads && nat_le (cq.consumed + qsize) cq.posted) rule.CqFull Kept b.1 in
    pass _ rule.Slot _ (still (is_other slot (cq.posted % slots_of qsize)) _ (λ k. other_shown slot shown _ s (ap (λ (n : ℕ). is_other shown (n % slots_of qsize)) (sym e) ∙ k)) a.0)
    (pass _ rule.Phase _ (still (is_other_phase phase (phase_of qsize cq.posted)) _ (λ k. phase_shown phase seen _ p (ap (λ (n : ℕ). is_other_phase seen (phase_of qsize n)) (sym e) ∙ k)) b.0)
    (pass _ rule.CqFull _ (still (tells.heads && nat_le (cq.consumed + qsize) cq.posted) _ (λ k. let t = both _ _ k in let g = f t.0 in join _ _ g.0 (le-leb _ _ (omega (arith, g.1, e, leb-true _ _ t.1)))) c.0) refl)))
  where
    unless_early : (a b : Bool) (v w : Verdict) → (a ≡ true → b ≡ true) → (if a then Kept else v) ≡ Kept → (v ≡ Kept → w ≡ Kept) → (if b then Kept else w) ≡ Kept
    unless_early a true v w f h g = refl
    unless_early true false v w f h g = let t : false ≡ true = f refl in cc
    unless_early false false v w f h g = g h

-- ---- its name
pub name_still : (cqid : ℕ) (sq now : Sq) (ring : Option Ring) (command seen : Option Command) (head shown : Option ℕ)
    → (is_none seen ≡ true → is_none command ≡ true)
    → ((qsize : ℕ) → is_other_head qsize seen now.fetched shown ≡ true → is_other_head qsize command sq.fetched head ≡ true)
    → name_rules cqid sq ring command head ≡ Kept → name_rules cqid now ring seen shown ≡ Kept
name_still cqid sq now None command seen head shown f g h = cc
name_still cqid sq now (Some ring) command seen head shown f g h =
    let a = passes (not (ring.cqid == cqid)) rule.CqWrong _ h in
    let b = passes (is_none command) rule.Life _ a.1 in
    let c = passes (is_other_head ring.qsize command sq.fetched head) rule.Sqhd Kept b.1 in
    pass _ rule.CqWrong _ a.0 (pass _ rule.Life _ (still (is_none command) _ f b.0) (pass _ rule.Sqhd _ (still (is_other_head ring.qsize command sq.fetched head) _ (g ring.qsize) c.0) refl))

-- ---- its status
-- each check of it passes
pub record IsAnswered (tells : Tells) (own_cq : Cq) (sq own_sq : Sq) (admin : Admin) (command target : Option Command) (completion : Completion) : Type 0 where
  pub doomed : is_undoomed sq completion.status ≡ false
  pub named : is_unnamed command completion.status ≡ false
  pub as_told : is_not_as_told command completion.status ≡ false
  pub abort : is_untrue_abort tells own_sq target (mark_in command) completion (answered_in command completion) ≡ false
  pub own : own_rules own_sq own_cq admin (mark_in command) completion (answered_in command completion) ≡ Kept

or_passes : (a b : Bool) → (a || b) ≡ false → (a ≡ false) × (b ≡ false)
or_passes true b h = cc
or_passes false b h = (refl, h)

or_pass : (a b : Bool) → a ≡ false → b ≡ false → (a || b) ≡ false
or_pass true b h g = cc
or_pass false b h g = g

-- ---- completions
-- the checks of a status
abbrev checks_of : Tells → Cq → (sq own_sq : Sq) → Admin → (command target : Option Command) → Completion → Verdict
checks_of tells own_cq sq own_sq admin command target completion =
    if is_undoomed sq completion.status then Broken rule.SqdelUnasked
    else if is_unnamed command completion.status then Broken rule.AbortUnasked
    else if is_not_as_told command completion.status || is_untrue_abort tells own_sq target (mark_in command) completion (answered_in command completion) then Broken rule.AbortUntrue
    else own_rules own_sq own_cq admin (mark_in command) completion (answered_in command completion)

-- each check of a completion passes, where the host broke no rule
pub record IsPosted (tells : Tells) (cqid : ℕ) (cq own_cq : Cq) (sq own_sq : Sq) (admin : Admin) (command target : Option Command) (slot : Option ℕ) (completion : Completion) : Type 0 where
  pub placed : slot_rules tells cq cq.qsize slot completion.phase ≡ Kept
  pub named : (not tells.posts && sq.deleted) ≡ false → name_rules cqid sq sq.ring command completion.sqhd ≡ Kept
  pub answered : (not tells.posts && sq.deleted) ≡ false → IsAnswered tells own_cq sq own_sq admin command target completion

abbrev pub post_said : Tells → ℕ → (cq own_cq : Cq) → (sq own_sq : Sq) → Admin → (command target : Option Command) → Option ℕ → Completion → Verdict
post_said tells cqid cq own_cq sq own_sq admin command target slot completion =
    if_kept (post_verdict tells cqid cq sq command slot completion) (answer_verdict tells cq own_cq sq own_sq admin command target completion)

skip : (a b : Bool) (v : Verdict) → a ≡ false → (if a || b then Kept else v) ≡ Kept → b ≡ false → v ≡ Kept
skip true b v e h s = cc
skip false true v e h s = cc
skip false false v e h s = h

keep : (a b : Bool) (v : Verdict) → (b ≡ false → v ≡ Kept) → (if a || b then Kept else v) ≡ Kept
keep true b v f = refl
keep false true v f = refl
keep false false v f = f refl

excused_or : (a b c : Bool) (v : Verdict) → a ≡ false → (if a || (b || c) then Kept else v) ≡ Kept → (if b || c then Kept else v) ≡ Kept
excused_or true b c v e h = cc
excused_or false b c v e h = h

pub posted_parts : (tells : Tells) (cqid : ℕ) (cq own_cq : Cq) (sq own_sq : Sq) (admin : Admin) (command target : Option Command) (slot : Option ℕ) (completion : Completion)
    → cq.excused ≡ false → sq.excused ≡ false → post_said tells cqid cq own_cq sq own_sq admin command target slot completion ≡ Kept → IsPosted tells cqid cq own_cq sq own_sq admin command target slot completion
posted_parts tells cqid cq own_cq sq own_sq admin command target slot completion ec es h =
    let t = first_kept (post_verdict tells cqid cq sq command slot completion) _ h in
    let s = first_kept (slot_rules tells cq cq.qsize slot completion.phase) _ (not_excused cq.excused _ ec t.0) in
    record {
      placed = s.0;
      named = skip sq.excused _ _ es s.1;
      answered = λ k.
          let a = passes _ rule.SqdelUnasked _ (skip sq.excused _ _ es (excused_or cq.excused sq.excused (not tells.posts && sq.deleted) (checks_of tells own_cq sq own_sq admin command target completion) ec t.1) k) in
          let b = passes _ rule.AbortUnasked _ a.1 in
          let c = passes (is_not_as_told command completion.status || is_untrue_abort tells own_sq target (mark_in command) completion (answered_in command completion)) rule.AbortUntrue _ b.1 in
          let d = or_passes _ _ c.0 in
          record { doomed = a.0; named = b.0; as_told = d.0; abort = d.1; own = c.1 };
    }

pub posted_whole : (tells : Tells) (cqid : ℕ) (cq own_cq : Cq) (sq own_sq : Sq) (admin : Admin) (command target : Option Command) (slot : Option ℕ) (completion : Completion)
    → cq.excused ≡ false → IsPosted tells cqid cq own_cq sq own_sq admin command target slot completion → post_said tells cqid cq own_cq sq own_sq admin command target slot completion ≡ Kept
posted_whole tells cqid cq own_cq sq own_sq admin command target slot completion ec h =
    both_kept _ _ (unless_excused cq.excused _ (both_kept _ _ h.placed (keep sq.excused _ _ h.named)))
    (unless_either cq.excused sq.excused (not tells.posts && sq.deleted) (checks_of tells own_cq sq own_sq admin command target completion) (λ k. let a = h.answered k in pass _ rule.SqdelUnasked _ a.doomed (pass _ rule.AbortUnasked _ a.named (pass _ rule.AbortUntrue _ (or_pass _ _ a.as_told a.abort) a.own))))
  where
    unless_either : (a b c : Bool) (v : Verdict) → (c ≡ false → v ≡ Kept) → (if a || (b || c) then Kept else v) ≡ Kept
    unless_either true b c v f = refl
    unless_either false true c v f = refl
    unless_either false false true v f = refl
    unless_either false false false v f = f refl

-- ---- the status of an admin command
passed_if : (met now fails fail : Bool) (r : Rule) → (met ≡ true → now ≡ true) → (fail ≡ true → fails ≡ true) → broken_if (not met && fails) (Broken r) ≡ Kept → broken_if (not now && fail) (Broken r) ≡ Kept
passed_if met true fails fail r f g h = refl
passed_if met false fails false r f g h = refl
passed_if true false fails true r f g h = let t : false ≡ true = f refl in cc
passed_if false false true true r f g h = cc
passed_if false false false true r f g h = let t : false ≡ true = g refl in cc

broken_shown : (fails fail : Bool) (r : Rule) → (fail ≡ true → fails ≡ true) → broken_if fails (Broken r) ≡ Kept → broken_if fail (Broken r) ≡ Kept
broken_shown fails false r f h = refl
broken_shown true true r f h = cc
broken_shown false true r f h = let t : false ≡ true = f refl in cc

settled_still : (asked now mark noted : ℕ) → asked ≤ now → noted ≤ mark → is_settled now noted ≡ true → is_settled asked mark ≡ true
settled_still asked now mark noted f g h = le-leb _ _ (omega (arith, f, g, leb-true _ _ h))

create_sq_still : (ok one two is_open sized free closed named set was y within w x v : Bool) → (set ≡ true → was ≡ true) → (w ≡ true → within ≡ true) → (v ≡ true → x ≡ true)
    → (if ok then is_open || sized || (set && free) else (if one then named && set && y else two && w && closed && v)) ≡ true
    → (if ok then is_open || sized || (was && free) else (if one then named && was && y else two && within && closed && x)) ≡ true
create_sq_still true one two is_open sized free closed named false was y within w x v f g h k = if_any is_open sized k
  where
    if_any : (a b : Bool) → (a || b || false) ≡ true → (a || b || (was && free)) ≡ true
    if_any true b e = refl
    if_any false true e = refl
    if_any false false e = cc
create_sq_still true one two is_open sized free closed named true was y within w x v f g h k = rw (f refl) k
create_sq_still false true two is_open sized free closed named false was y within w x v f g h k = let t = both (named && false) y k in let u = both named false t.0 in let z : false ≡ true = u.1 in cc
create_sq_still false true two is_open sized free closed named true was y within w x v f g h k = rw (f refl) k
create_sq_still false false two is_open sized free closed named set was y within w x v f g h k =
    let t = both (two && w && closed) v k in let u = both (two && w) closed t.0 in let z = both two w u.0 in
    join _ _ (join _ _ (join _ _ z.0 (g z.1)) u.1) (h t.1)

create_cq_still : (ok one open_now sized closed within w : Bool) → (w ≡ true → within ≡ true) → (if ok then open_now || sized else one && w && closed) ≡ true → (if ok then open_now || sized else one && within && closed) ≡ true
create_cq_still true one open_now sized closed within w f k = k
create_cq_still false one open_now sized closed within w f k = let t = both (one && w) closed k in let u = both one w t.0 in join _ _ (join _ _ u.0 (f u.1)) t.1

delete_cq_still : (ok one three zero closed named full set was : Bool) → (set ≡ true → was ≡ true)
    → (if ok then zero || closed || (set && full) else (if one then named else three && not zero && set && not full)) ≡ true
    → (if ok then zero || closed || (was && full) else (if one then named else three && not zero && was && not full)) ≡ true
delete_cq_still true one three zero closed named full set was f k = if_any zero closed (set && full) (was && full) (λ t. let u = both set full t in join _ _ (f u.0) u.1) k
  where
    if_any : (a b c d : Bool) → (c ≡ true → d ≡ true) → (a || b || c) ≡ true → (a || b || d) ≡ true
    if_any true b c d g e = refl
    if_any false true c d g e = refl
    if_any false false c d g e = g e
delete_cq_still false true three zero closed named full set was f k = k
delete_cq_still false false three zero closed named full set was f k =
    let t = both (three && not zero && set) (not full) k in let u = both (three && not zero) set t.0 in join _ _ (join _ _ u.0 (f u.1)) t.1

sq_within_shown : (numbers now : Option ℕ) (qid : ℕ) → IsShown numbers now → is_sq_within now qid ≡ true → is_sq_within numbers qid ≡ true
sq_within_shown numbers now qid s h = elim s [
  | inl n ↦ let t : false ≡ true = sym (ap (λ (f : Option ℕ). is_sq_within f qid) n) ∙ h in cc
  | inr e ↦ sym (ap (λ (f : Option ℕ). is_sq_within f qid) e) ∙ h
]

cq_within_shown : (numbers now : Option ℕ) (qid : ℕ) → IsShown numbers now → is_cq_within now qid ≡ true → is_cq_within numbers qid ≡ true
cq_within_shown numbers now qid s h = elim s [
  | inl n ↦ let t : false ≡ true = sym (ap (λ (f : Option ℕ). is_cq_within f qid) n) ∙ h in cc
  | inr e ↦ sym (ap (λ (f : Option ℕ). is_cq_within f qid) e) ∙ h
]

none_told : (n : Option ℕ) → are_numbers n None ≡ true
none_told None = refl
none_told (Some n) = refl

first_told : (numbers dw0 : Option ℕ) → are_numbers None numbers ≡ true → are_numbers numbers dw0 ≡ true → are_numbers None dw0 ≡ true
first_told None dw0 p h = h
first_told (Some n) None p h = refl
first_told (Some n) (Some d) p h = ap (λ (k : ℕ). are_numbers None (Some k)) (sym (eqb-true n d h)) ∙ p

numbers_shown : (numbers now dw0 shown : Option ℕ) → are_numbers None numbers ≡ true → IsShown numbers now → IsShown dw0 shown → are_numbers numbers dw0 ≡ true → are_numbers now shown ≡ true
numbers_shown numbers now dw0 shown p s t h = elim t [
  | inl n ↦ ap (λ (f : Option ℕ). are_numbers now f) n ∙ none_told now
  | inr e ↦ ap (λ (f : Option ℕ). are_numbers now f) e ∙ (elim s [
    | inl n ↦ ap (λ (f : Option ℕ). are_numbers f dw0) n ∙ first_told numbers dw0 p h
    | inr g ↦ ap (λ (f : Option ℕ). are_numbers f dw0) g ∙ h
  ])
]

features_still : (numbers now dw0 shown : Option ℕ) (mark noted fid : ℕ) (status : StatusCode) → are_numbers None numbers ≡ true → IsShown numbers now → IsShown dw0 shown → noted ≤ mark
    → is_untrue_of_features now noted fid shown status ≡ true → is_untrue_of_features numbers mark fid dw0 status ≡ true
features_still numbers now dw0 shown mark noted fid status p s t f h =
    let u = both _ _ h in join _ _ u.0 (go (nat_lt 0 noted) (nat_lt 0 mark) (are_numbers now shown) (are_numbers numbers dw0) (λ e. lt-ltb _ _ (omega (arith, f, ltb-true _ _ e))) (numbers_shown numbers now dw0 shown p s t) u.1)
  where
    go : (a b c d : Bool) → (a ≡ true → b ≡ true) → (d ≡ true → c ≡ true) → (a || not c) ≡ true → (b || not d) ≡ true
    go true b c d g e k = rw (g refl) refl
    go false b true d g e k = cc
    go false true false d g e k = refl
    go false false false true g e k = let z : false ≡ true = e refl in cc
    go false false false false g e k = refl

-- what is read of the status of an admin command tells no more of it
pub record IsMoreOpen (sq sq_now : Sq) (cq cq_now : Cq) (admin now : Admin) : Type 0 where
  pub ring_is : sq_now.ring ≡ sq.ring
  pub qsize_is : cq_now.qsize ≡ cq.qsize
  pub joined_is : cq_now.joined ≡ cq.joined
  pub parted_is : cq_now.parted ≡ cq.parted
  pub cq_asked : cq.asked ≤ cq_now.asked
  pub asked : admin.asked ≤ now.asked
  pub met : admin.met ≡ true → now.met ≡ true
  pub possible : are_numbers None admin.numbers ≡ true
  pub numbers : IsShown admin.numbers now.numbers

pub status_still : (sq sq_now : Sq) (cq cq_now : Cq) (admin now : Admin) (mark noted : ℕ) (completion seen : Completion) (command : AdminCommand)
    → IsMoreOpen sq sq_now cq cq_now admin now → noted ≤ mark → seen.status ≡ completion.status → IsShown completion.dw0 seen.dw0
    → status_rules sq cq admin mark completion command ≡ Kept → status_rules sq_now cq_now now noted seen command ≡ Kept
status_still sq sq_now cq cq_now admin now mark noted completion seen (DeleteSq qid) o f e s h =
    passed_if admin.met now.met (is_untrue_of_delete_sq sq qid completion.status) _ rule.StatusDelete o.met (λ k. rw (o.ring_is, e) at k) h
status_still sq sq_now cq cq_now admin now mark noted completion seen (CreateSq qid qsize prp1 cqid qprio pc) o f e s h =
    passed_if admin.met now.met (is_untrue_of_create_sq sq cq admin.numbers mark qid qsize cqid completion.status) _ rule.StatusCreate o.met
    (λ k. create_sq_still (is_success completion.status) (is_specific completion.status 0x00) (is_specific completion.status 0x01) (is_some sq.ring) (qsize == 0) (is_none cq.qsize) (is_none sq.ring) (not (cqid == 0)) (is_settled cq_now.asked noted) (is_settled cq.asked mark) (is_some cq.qsize) (is_sq_within admin.numbers qid) (is_sq_within now.numbers qid) (is_cq_within admin.numbers cqid) (is_cq_within now.numbers cqid) (settled_still cq.asked cq_now.asked mark noted o.cq_asked f) (sq_within_shown admin.numbers now.numbers qid o.numbers) (cq_within_shown admin.numbers now.numbers cqid o.numbers) (rw (o.ring_is, o.qsize_is, e) at k)) h
status_still sq sq_now cq cq_now admin now mark noted completion seen (DeleteCq qid) o f e s h =
    passed_if admin.met now.met (is_untrue_of_delete_cq cq admin.asked mark qid completion.status) _ rule.StatusDelete o.met
    (λ k. delete_cq_still (is_success completion.status) (is_specific completion.status 0x01) (is_specific completion.status 0x0c) (qid == 0) (is_none cq.qsize) (not (qid == 0) && is_some cq.qsize) (is_attached cq) (is_settled now.asked noted) (is_settled admin.asked mark) (settled_still admin.asked now.asked mark noted o.asked f) (rw (o.qsize_is, o.joined_is, o.parted_is, e) at k)) h
status_still sq sq_now cq cq_now admin now mark noted completion seen (CreateCq qid qsize prp1 pc) o f e s h =
    passed_if admin.met now.met (is_untrue_of_create_cq cq admin.numbers qid qsize completion.status) _ rule.StatusCreate o.met
    (λ k. create_cq_still (is_success completion.status) (is_specific completion.status 0x01) (is_some cq.qsize) (qsize == 0) (is_none cq.qsize) (is_cq_within admin.numbers qid) (is_cq_within now.numbers qid) (cq_within_shown admin.numbers now.numbers qid o.numbers) (rw (o.qsize_is, e) at k)) h
status_still sq sq_now cq cq_now admin now mark noted completion seen (Abort sqid cid) o f e s h = refl
status_still sq sq_now cq cq_now admin now mark noted completion seen (SetFeatures fid sv cdw11) o f e s h =
    broken_shown (is_untrue_of_features admin.numbers mark fid completion.dw0 completion.status) _ rule.Features
    (λ k. features_still admin.numbers now.numbers completion.dw0 seen.dw0 mark noted fid completion.status o.possible o.numbers s f (rw e at k)) h
status_still sq sq_now cq cq_now admin now mark noted completion seen (GetFeatures fid) o f e s h = refl
status_still sq sq_now cq cq_now admin now mark noted completion seen Other o f e s h = refl

-- ---- the own command of a completion
-- the command that is outstanding, as the log says it
pub reply_is : (out : Option AdminCommand) (n m : ℕ) (named owed : Bool) (completion : Completion) → answered_in (command_with out n m named owed) completion ≡ answered_by out completion
reply_is None n m named owed completion = refl
reply_is (Some command) n m named owed completion = refl

pub mark_is : (out : Option AdminCommand) (n m : ℕ) (named owed : Bool) → mark_in (command_with out n m named owed) ≡ mark_if out m
mark_is None n m named owed = refl
mark_is (Some command) n m named owed = refl

pub none_is : (out : Option AdminCommand) (n m : ℕ) (named owed : Bool) → is_none (command_with out n m named owed) ≡ is_none out
none_is None n m named owed = refl
none_is (Some command) n m named owed = refl

pub mark_least : (out : Option AdminCommand) (noted mark : ℕ) → noted ≤ mark → mark_if out noted ≤ mark_if out mark
mark_least None noted mark f = omega arith
mark_least (Some command) noted mark f = f

abbrev far : (qsize number head : ℕ) → ℕ
far qsize number head = number + 1 + gap (slots_of qsize) ((number + 1) % slots_of qsize) head

-- a head that may be told may be told once more was fetched
head_more : (qsize number before after : ℕ) (head : ℕ) → before ≤ after → not (is_head_of qsize number after head) ≡ true → not (is_head_of qsize number before head) ≡ true
head_more qsize number before after head f h =
    go (is_head_of qsize number before head) (is_head_of qsize number after head) (λ k. let t = both (nat_le head qsize) (nat_le (far qsize number head) before) k in join (nat_le head qsize) (nat_le (far qsize number head) after) t.0 (le-leb (far qsize number head) after (omega (arith, f, leb-true (far qsize number head) before t.1)))) h
  where
    go : (a b : Bool) → (a ≡ true → b ≡ true) → not b ≡ true → not a ≡ true
    go true b g k = let t : b ≡ true = g refl in cc
    go false b g k = refl

pub other_head_still : (qsize : ℕ) (out : Option AdminCommand) (n m noted : ℕ) (named now owed owes : Bool) (before after : ℕ) (head shown : Option ℕ) → before ≤ after → IsShown head shown
    → is_other_head qsize (command_with out n noted now owes) after shown ≡ true → is_other_head qsize (command_with out n m named owed) before head ≡ true
other_head_still qsize None n m noted named now owed owes before after head shown f s h = cc
other_head_still qsize (Some command) n m noted named now owed owes before after head shown f s h = elim s [
  | inl none ↦ let t : false ≡ true = sym (ap (λ (k : Option ℕ). is_other_head qsize (command_with (Some command) n noted now owes) after k) none) ∙ h in cc
  | inr told ↦ go head (sym (ap (λ (k : Option ℕ). is_other_head qsize (command_with (Some command) n noted now owes) after k) told) ∙ h)
]
  where
    go : (head : Option ℕ) → is_other_head qsize (command_with (Some command) n noted now owes) after head ≡ true → is_other_head qsize (command_with (Some command) n m named owed) before head ≡ true
    go None k = cc
    go (Some head) k = head_more qsize n before after head f k

pub unnamed_still : (out : Option AdminCommand) (n m noted : ℕ) (named now owed owes : Bool) (status : StatusCode) → (named ≡ true → now ≡ true)
    → is_unnamed (command_with out n noted now owes) status ≡ true → is_unnamed (command_with out n m named owed) status ≡ true
unnamed_still None n m noted named now owed owes status f h = h
unnamed_still (Some command) n m noted true now owed owes status f h = let t = both (is_aborted status) (not now) h in let k : now ≡ true = f refl in cc
unnamed_still (Some command) n m noted false now owed owes status f h = let t = both (is_aborted status) (not now) h in join _ _ t.0 refl

pub as_told_still : (out : Option AdminCommand) (n m noted : ℕ) (named now owed owes : Bool) (status : StatusCode) → (is_some out ≡ true → owes ≡ true → is_aborted status ≡ false → owed ≡ true)
    → is_not_as_told (command_with out n noted now owes) status ≡ true → is_not_as_told (command_with out n m named owed) status ≡ true
as_told_still None n m noted named now owed owes status f h = h
as_told_still (Some command) n m noted named now owed owes status f h = let t = both owes (not (is_aborted status)) h in join _ _ (f refl t.0 (not_true _ t.1)) t.1
  where
    not_true : (b : Bool) → not b ≡ true → b ≡ false
    not_true true k = cc
    not_true false k = refl

-- ---- what an Abort says
says_shown : (dw0 shown : Option ℕ) → IsShown dw0 shown → says_aborted shown ≡ true → says_aborted dw0 ≡ true
says_shown dw0 shown s h = elim s [
  | inl n ↦ let t : false ≡ true = sym (ap says_aborted n) ∙ h in cc
  | inr e ↦ sym (ap says_aborted e) ∙ h
]

-- it says it since a later mark as well
pub told_still : (stirred now mark noted : ℕ) (completion seen : Completion) → seen.status ≡ completion.status → IsShown completion.dw0 seen.dw0 → stirred ≤ now → mark ≤ stirred → noted ≤ mark
    → told_of now noted seen ≡ true → told_of stirred mark completion ≡ true
told_still stirred now mark noted completion seen e s f g k h =
    let t = both (is_success seen.status && says_aborted seen.dw0) (now == noted) h in
    let u = both (is_success seen.status) (says_aborted seen.dw0) t.0 in
    let same : stirred ≡ mark = omega (arith, f, g, k, eqb-true now noted t.1) in
    join _ _ (join _ _ (rw e at u.0) (says_shown completion.dw0 seen.dw0 s u.1)) (eq-eqb stirred mark same)

-- ---- Number of Queues
and_false : (a b c : Bool) → (a && b && c) ≡ false → a ≡ true → b ≡ true → c ≡ false
and_false true true c h f g = h
and_false true false c h f g = cc
and_false false b c h f g = cc

or_not : (a b : Bool) → (a || not b) ≡ false → b ≡ true
or_not true b h = cc
or_not false true h = refl
or_not false false h = cc

not_broken : (a : Bool) (r : Rule) → broken_if a (Broken r) ≡ Kept → a ≡ false
not_broken true r h = cc
not_broken false r h = refl

-- the answer to a Set Features that sets them has the numbers that were told
numbers_told : (sq : Sq) (cq : Cq) (admin : Admin) (mark : ℕ) (completion : Completion) (command : AdminCommand) → is_success completion.status ≡ true → sets_numbers command ≡ true
    → status_rules sq cq admin mark completion command ≡ Kept → are_numbers admin.numbers completion.dw0 ≡ true
numbers_told sq cq admin mark completion (DeleteSq qid) ok s h = cc
numbers_told sq cq admin mark completion (CreateSq qid qsize prp1 cqid qprio pc) ok s h = cc
numbers_told sq cq admin mark completion (DeleteCq qid) ok s h = cc
numbers_told sq cq admin mark completion (CreateCq qid qsize prp1 pc) ok s h = cc
numbers_told sq cq admin mark completion (Abort sqid cid) ok s h = cc
numbers_told sq cq admin mark completion (SetFeatures fid sv cdw11) ok s h =
    or_not (nat_lt 0 mark) _ (and_false (fid == number_of_queues) (is_success completion.status) _ (not_broken (is_untrue_of_features admin.numbers mark fid completion.dw0 completion.status) rule.Features h) s ok)
numbers_told sq cq admin mark completion (GetFeatures fid) ok s h = cc
numbers_told sq cq admin mark completion Other ok s h = cc

ends_by : (own ok : Bool) (command : AdminCommand) → sets_numbers (if own && ok then command else Other) ≡ true → (own ≡ true) × (ok ≡ true) × (sets_numbers command ≡ true)
ends_by true true command h = (refl, refl, h)
ends_by true false command h = cc
ends_by false ok command h = cc

-- the same of the command that a completion carries to its end
pub numbers_of_end : (out : Option AdminCommand) (n m : ℕ) (named owed : Bool) (sq : Sq) (cq : Cq) (admin : Admin) (mark : ℕ) (completion : Completion)
    → own_rules sq cq admin mark completion (answered_in (command_with out n m named owed) completion) ≡ Kept → sets_numbers (done_by out completion) ≡ true → are_numbers admin.numbers completion.dw0 ≡ true
numbers_of_end None n m named owed sq cq admin mark completion h s = cc
numbers_of_end (Some command) n m named owed sq cq admin mark completion h s =
    let t = ends_by (completion.sq == 0) (is_success completion.status) command s in
    let own : own_rules sq cq admin mark completion command ≡ Kept = rw t.0 at h in
    numbers_told sq cq admin mark completion command t.1 t.2 (passes (is_foreign command completion.status) rule.StatusForeign _ own).1

-- a completion of the admin queue is judged, or it carries nothing to its end
ends_queue_0 : (out : Option AdminCommand) (completion : Completion) → sets_numbers (done_by out completion) ≡ true → (completion.sq ≡ 0) × (is_some out ≡ true)
ends_queue_0 None completion s = cc
ends_queue_0 (Some command) completion s = (eqb-true completion.sq 0 (ends_by (completion.sq == 0) (is_success completion.status) command s).0, refl)

deletes_closes : (command : AdminCommand) (q : ℕ) (before : Option Ring) → deletes_sq command q ≡ true → (ring_by command q before ≡ None) × (turns_sq command q ≡ true)
deletes_closes (DeleteSq qid) q before h = (rw h refl, h)
deletes_closes (CreateSq qid qsize prp1 cqid qprio pc) q before h = cc
deletes_closes (DeleteCq qid) q before h = cc
deletes_closes (CreateCq qid qsize prp1 pc) q before h = cc
deletes_closes (Abort sqid cid) q before h = cc
deletes_closes (SetFeatures fid sv cdw11) q before h = cc
deletes_closes (GetFeatures fid) q before h = cc
deletes_closes Other q before h = cc

no_ring : (tells : Tells) (sq : Sq) (ring : Option Ring) (slot : Option ℕ) (out : Bool) → ring ≡ None → fetch_rules tells sq ring slot out ≡ Kept → true ≡ false
no_ring tells sq None slot out e h = cc
no_ring tells sq (Some ring) slot out e h = cc

if_none : (own : Bool) (command : AdminCommand) (out : Option AdminCommand) → (own ≡ true → true ≡ false) → out ≡ None → (if own then Some command else out) ≡ None
if_none true command out f h = let t : true ≡ false = f refl in cc
if_none false command out f h = h

none_left : (turned named : Bool) (out : Option AdminCommand) → (turned ≡ false → out ≡ None) → (if turned then None else (if named then None else out)) ≡ None
none_left true named out f = refl
none_left false true out f = refl
none_left false false out f = f refl

-- once the admin queue was deleted, it stays closed, and no command of it is outstanding
pub admin_closed : (start : Start) (past : Past) → IsFaultlessLog start past → was_deleted past 0 ≡ true → (ring_of start past 0 ≡ None) × ((c : ℕ) → asked past 0 c ≡ None)
admin_closed start [] log h = cc
admin_closed start (Tail sq slot ∷ past) log h = admin_closed start past log.1 h
admin_closed start (Head cq slot ∷ past) log h = admin_closed start past log.1 h
admin_closed start (Fetch sq slot cid command ∷ past) log h =
    let t = admin_closed start past log.1 h in (
      t.0,
      λ c. if_none _ command (asked past 0 c)
          (λ e. let own : sq ≡ 0 = eqb-true sq 0 (both (sq == 0) (cid == c) e).0 in
          no_ring start.tells (sq_after start past sq) (ring_of start past sq) slot _ (ap (ring_of start past) own ∙ t.0) (not_excused (is_sq_excused start past sq) _ (none_excused start past log.1 sq).0 (is_ruled start past (Fetch sq slot cid command) log.1 log.0))) (t.1 c),
    )
admin_closed start (Post cq slot completion ∷ past) log h = go (was_deleted past 0) refl (λ k. admin_closed start past log.1 k) (or_either (deletes_sq (done past completion) 0) (was_deleted past 0) h)
  where
    or_either : (a b : Bool) → (a || b) ≡ true → b ≡ false → a ≡ true
    or_either true b k e = refl
    or_either false b k e = sym e ∙ k

    go : (was : Bool) → was_deleted past 0 ≡ was → (was_deleted past 0 ≡ true → (ring_of start past 0 ≡ None) × ((c : ℕ) → asked past 0 c ≡ None)) → (was_deleted past 0 ≡ false → deletes_sq (done past completion) 0 ≡ true)
        → (ring_of start (Post cq slot completion ∷ past) 0 ≡ None) × ((c : ℕ) → asked (Post cq slot completion ∷ past) 0 c ≡ None)
    go true e before f =
        let t = before e in
        let ends : done past completion ≡ Other = ap (λ (o : Option AdminCommand). done_by o completion) (t.1 completion.cid) in
        (rw (ends, t.0) refl, λ c. none_left _ _ (asked past 0 c) (λ k. t.1 c))
    go false e before f =
        let t = deletes_closes (done past completion) 0 (ring_of start past 0) (f e) in
        (t.0, λ c. none_left _ _ (asked past 0 c) (λ k. let z : true ≡ false = sym t.1 ∙ k in cc))

-- ---- completions of a log
-- the checks of a completion pass, by the facts of the log
abbrev pub IsPostedAt : Start → Past → ℕ → Option ℕ → Completion → AdminCommand → Type 0
IsPostedAt start past cq slot completion reply =
    IsPosted start.tells cq (cq_after start past cq) (cq_after start past (cq_named reply)) (sq_after start past completion.sq) (sq_after start past (sq_named reply)) (admin_after past)
    (outstanding past completion.sq completion.cid) (outstanding past (sq_named reply) (cid_named reply)) slot completion

pub posted_at : (start : Start) (past : Past) (cq : ℕ) (slot : Option ℕ) (completion : Completion) → IsFaultlessLog start past → verdict start past (Post cq slot completion) ≡ Kept
    → IsPostedAt start past cq slot completion (answered_in (outstanding past completion.sq completion.cid) completion)
posted_at start past cq slot completion log h =
    let reply : AdminCommand = answered_in (outstanding past completion.sq completion.cid) completion in
    posted_parts start.tells cq (cq_after start past cq) (cq_after start past (cq_named reply)) (sq_after start past completion.sq) (sq_after start past (sq_named reply)) (admin_after past)
    (outstanding past completion.sq completion.cid) (outstanding past (sq_named reply) (cid_named reply)) slot completion
    (none_excused start past log cq).1 (none_excused start past log completion.sq).0 (is_ruled start past (Post cq slot completion) log h)

pub kept_at : (start : Start) (past : Past) (cq : ℕ) (slot : Option ℕ) (completion : Completion) → IsFaultlessLog start past
    → IsPostedAt start past cq slot completion (answered_in (outstanding past completion.sq completion.cid) completion) → verdict start past (Post cq slot completion) ≡ Kept
kept_at start past cq slot completion log h =
    let reply : AdminCommand = answered_in (outstanding past completion.sq completion.cid) completion in
    unless_excused (is_lost past) _ (
    posted_whole start.tells cq (cq_after start past cq) (cq_after start past (cq_named reply)) (sq_after start past completion.sq) (sq_after start past (sq_named reply)) (admin_after past)
    (outstanding past completion.sq completion.cid) (outstanding past (sq_named reply) (cid_named reply)) slot completion
    (none_excused start past log cq).1 h
    )

-- what an answer says of Number of Queues is what was told first
pub numbers_kept : (start : Start) (past : Past) (cq : ℕ) (slot : Option ℕ) (completion : Completion) → IsFaultlessLog start past → verdict start past (Post cq slot completion) ≡ Kept
    → sets_numbers (done past completion) ≡ true → are_numbers (numbers past) completion.dw0 ≡ true
numbers_kept start past cq slot completion log h s = go (not start.tells.posts && was_deleted past completion.sq) refl
  where
    go : (skipped : Bool) → (not start.tells.posts && was_deleted past completion.sq) ≡ skipped → are_numbers (numbers past) completion.dw0 ≡ true
    go true e =
        let t : (ring_of start past 0 ≡ None) × ((c : ℕ) → asked past 0 c ≡ None) = admin_closed start past log (ap (was_deleted past) (sym (ends_queue_0 (asked past 0 completion.cid) completion s).0) ∙ (both (not start.tells.posts) (was_deleted past completion.sq) e).1) in
        let k : false ≡ true = sym (ap (λ (o : Option AdminCommand). is_some o) (t.1 completion.cid)) ∙ (ends_queue_0 (asked past 0 completion.cid) completion s).1 in cc
    go false e =
        let a = (posted_at start past cq slot completion log h).answered e in
        numbers_of_end (asked past completion.sq completion.cid) (number_of past completion.sq completion.cid) (mark_of past completion.sq completion.cid) (was_named past completion.sq completion.cid) (owes past completion.sq completion.cid)
        (sq_after start past (sq_named (answered_in (outstanding past completion.sq completion.cid) completion))) (cq_after start past (cq_named (answered_in (outstanding past completion.sq completion.cid) completion))) (admin_after past)
        (mark_in (outstanding past completion.sq completion.cid)) completion a.own (subst (λ (k : ℕ). sets_numbers (done_by (asked past k completion.cid) completion) ≡ true) (sym (ends_queue_0 (asked past 0 completion.cid) completion s).0) s)

possible_by : (command : AdminCommand) (before dw0 : Option ℕ) → are_numbers None before ≡ true → (sets_numbers command ≡ true → are_numbers before dw0 ≡ true) → are_numbers None (numbers_by command dw0 before) ≡ true
possible_by (DeleteSq qid) before dw0 p f = p
possible_by (CreateSq qid qsize prp1 cqid qprio pc) before dw0 p f = p
possible_by (DeleteCq qid) before dw0 p f = p
possible_by (CreateCq qid qsize prp1 pc) before dw0 p f = p
possible_by (Abort sqid cid) before dw0 p f = p
possible_by (SetFeatures fid sv cdw11) before dw0 p f = go (fid == number_of_queues) before f p
  where
    go : (own : Bool) (before : Option ℕ) → (own ≡ true → are_numbers before dw0 ≡ true) → are_numbers None before ≡ true → are_numbers None (if own then told_first before dw0 else before) ≡ true
    go true None f p = f refl
    go true (Some n) f p = p
    go false before f p = p
possible_by (GetFeatures fid) before dw0 p f = p
possible_by Other before dw0 p f = p

-- the numbers that were told are possible
pub possible : (start : Start) (past : Past) → IsFaultlessLog start past → are_numbers None (numbers past) ≡ true
possible start [] log = refl
possible start (Tail sq slot ∷ past) log = possible start past log.1
possible start (Head cq slot ∷ past) log = possible start past log.1
possible start (Fetch sq slot cid command ∷ past) log = possible start past log.1
possible start (Post cq slot completion ∷ past) log = possible_by (done past completion) (numbers past) completion.dw0 (possible start past log.1) (numbers_kept start past cq slot completion log.1 log.0)

-- ---- marks
-- of the command that a completion answers, where that is an Abort
pub abort_bound : (out : Option AdminCommand) (completion : Completion) (stirred : ℕ → ℕ) (mark : ℕ) → ((sqid cid : ℕ) → out ≡ Some (Abort sqid cid) → mark ≤ stirred sqid) → is_abort (answered_by out completion) ≡ true → mark_if out mark ≤ stirred (sq_named (answered_by out completion))
abort_bound None completion stirred mark f h = cc
abort_bound (Some command) completion stirred mark f h = go (completion.sq == 0) command f h
  where
    go : (own : Bool) (command : AdminCommand) → ((sqid cid : ℕ) → Some command ≡ Some (Abort sqid cid) → mark ≤ stirred sqid) → is_abort (if own then command else Other) ≡ true → mark ≤ stirred (sq_named (if own then command else Other))
    go false command f h = cc
    go true (DeleteSq qid) f h = cc
    go true (CreateSq qid qsize prp1 cqid qprio pc) f h = cc
    go true (DeleteCq qid) f h = cc
    go true (CreateCq qid qsize prp1 pc) f h = cc
    go true (Abort sqid cid) f h = f sqid cid refl
    go true (SetFeatures fid sv cdw11) f h = cc
    go true (GetFeatures fid) f h = cc
    go true Other f h = cc

-- of an outstanding Abort nothing is counted at its fetch that isn't by now
pub mark_bound : (past : Past) (q c sqid cid : ℕ) → asked past q c ≡ Some (Abort sqid cid) → mark_of past q c ≤ stirred past sqid
mark_bound [] q c sqid cid h = cc
mark_bound (Tail sq slot ∷ past) q c sqid cid h = mark_bound past q c sqid cid h
mark_bound (Head cq slot ∷ past) q c sqid cid h = mark_bound past q c sqid cid h
mark_bound (Fetch sq slot k command ∷ past) q c sqid cid h = go ((sq == q) && (k == c)) h (λ e. mark_bound past q c sqid cid e)
  where
    go : (own : Bool) → (if own then Some command else asked past q c) ≡ Some (Abort sqid cid) → (asked past q c ≡ Some (Abort sqid cid) → mark_of past q c ≤ stirred past sqid) → (if own then mark_for past command else mark_of past q c) ≤ stirred past sqid
    go true e f = let same : command ≡ Abort sqid cid = cc in rw same (omega arith)
    go false e f = f e
mark_bound (Post cq slot completion ∷ past) q c sqid cid h =
    go (turns_sq (done past completion) q) ((completion.sq == q) && (completion.cid == c)) (turns_sq (done past completion) sqid) ((completion.sq == sqid) && is_aborted completion.status) h (λ e. mark_bound past q c sqid cid e)
  where
    go : (turned named turns hits : Bool) → (if turned then None else (if named then None else asked past q c)) ≡ Some (Abort sqid cid) → (asked past q c ≡ Some (Abort sqid cid) → mark_of past q c ≤ stirred past sqid)
        → mark_of past q c ≤ (if turns then (if hits then stirred past sqid + 1 else stirred past sqid) + 1 else (if hits then stirred past sqid + 1 else stirred past sqid))
    go true named turns hits e f = cc
    go false true turns hits e f = cc
    go false false true true e f = omega (arith, f e)
    go false false true false e f = omega (arith, f e)
    go false false false true e f = omega (arith, f e)
    go false false false false e f = f e
