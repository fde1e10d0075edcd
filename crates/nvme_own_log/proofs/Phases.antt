-- The phases of an I/O submission queue in an account, from one command that turns it to the next.
use Rattle.std.proofs.Common.{◌≡◌, ℕ, ◌+◌, ◌<◌, ◌==◌, Bool, true, false, if◌then◌else◌, List, [], ◌∷◌, ◌++◌, Some, None, refl, sym, ap, ◌∙◌, subst, ◌⊎◌, inl, inr, eqb-true, append_assoc}
use Rattle.std.proofs.lemmas.Bool.{eq-eqb, ne_eqb}
use Rattle.std.proofs.lemmas.Option.{none-some, same_Some}
use mathlib.Core.List.{IsPrefix}
use Rattle.nvme_entry.specs.AdminCommand.{admin_command_of}
use Rattle.nvme_entry.specs.declared.submission.Sqe.{Sqe}
use Rattle.nvme_entry.specs.declared.admin.AdminCommand.TheVariants.{DeleteSq, CreateSq}
use Rattle.nvme_arbiter.specs.declared.settings.Class.{Class}
use Rattle.nvme_admin.specs.Checks.{is_success}
use Rattle.nvme_admin.specs.Accepted.{queue_table, status_of}
use Rattle.nvme_log.specs.declared.event.Event.{Event}
use Rattle.nvme_log.specs.declared.event.Event.TheVariants.{Fetch, Pick, SetArbitration, OpenSq, OpenCq, Closing, Abort, Post, ClosedSq, ClosedCq}
use Rattle.nvme_log.specs.Rules.{FrontRules, Past}
use Rattle.nvme_log.specs.Queues.{Queue, open_sq, qid_of_region}
use Rattle.nvme_log.specs.Places.{picked, entry_at}
use Rattle.nvme_log.specs.Histories.{table_history}
use Rattle.nvme_log.specs.Completions.{is_posted, table_before}
use Rattle.nvme_log.specs.Effects.{made_last, effects_since, EffectsAtOnce}
use Rattle.nvme_log.specs.Account.{latest_admin_place}
use Rattle.nvme_log.proofs.LogLengths.{left-none}
use Rattle.nvme_log.proofs.Members.{IsIn}
use Rattle.nvme_log.proofs.Promise.{first-is_made}
use Rattle.nvme_ctrl_log.specs.Deletions.{deleting}
use Rattle.nvme_ctrl_log.specs.Doorbells.{sq_slots}
use Rattle.nvme_audit.specs.Lives.{turns_sq}
use Rattle.nvme_own_log.proofs.CqRegions.{cqid_with}

-- ---- events that turn a queue
-- none of these opens the queue or begins its deletion
abbrev pub NoTurn : ℕ → List Event → Type 0
NoTurn q es = ((r c : ℕ) (k : Class) → IsIn (OpenSq q r c k) es → ⊥) × ((r : ℕ) → IsIn (Closing q r) es → ⊥)

-- none of what is still to be made does
abbrev pub QuietBy : ℕ → (xs made : List Event) → Type 0
QuietBy q xs made = (rest : List Event) → xs ++ rest ≡ made → NoTurn q rest

pub quiet_whole : (q : ℕ) (xs made : List Event) → xs ≡ made → QuietBy q xs made
quiet_whole q xs made whole rest is = let none : rest ≡ [] = left-none xs rest made whole is in subst (NoTurn q) (sym none) ((λ r c k h. h), (λ r h. h))

pub quiet_more : (q : ℕ) (e : Event) (xs made : List Event) → QuietBy q xs made → QuietBy q (xs ++ e ∷ []) made
quiet_more q e xs made quiet rest is =
    let none = quiet (e ∷ rest) (sym (append_assoc xs (e ∷ []) rest) ∙ is) in
    ((λ r c k h. none.0 r c k (inr h)), (λ r h. none.1 r (inr h)))

pub quiet_open : (q r c : ℕ) (k : Class) (xs made : List Event) → QuietBy q xs made → IsPrefix (xs ++ OpenSq q r c k ∷ []) made → ⊥
quiet_open q r c k xs made quiet p = (quiet (OpenSq q r c k ∷ p.0) (sym (append_assoc xs (OpenSq q r c k ∷ []) p.0) ∙ p.1)).0 r c k (inl refl)

pub quiet_closing : (q r : ℕ) (xs made : List Event) → QuietBy q xs made → IsPrefix (xs ++ Closing q r ∷ []) made → ⊥
quiet_closing q r xs made quiet p = (quiet (Closing q r ∷ p.0) (sym (append_assoc xs (Closing q r ∷ []) p.0) ∙ p.1)).1 r (inl refl)

-- what the host was told: nothing, or that the queue is there, on a region, with a completion queue
pub data Stage : Type 0 where
  untold : Stage
  told_on : (r cqid : ℕ) → Stage

module _ (rules : FrontRules) where
  -- ---- admin commands
  -- it was fetched, and its completion isn't posted
  abbrev pub IsPending : Past → ℕ → Sqe → Type 0
  IsPending past k entry = (entry_at past 0 k ≡ Some entry) × (is_posted past 0 k ≡ false)

  -- it was picked, and accepted
  abbrev pub IsAccepted : Past → ℕ → Sqe → Type 0
  IsAccepted past k entry = (k < picked past 0) × (is_success (status_of rules.start (table_before rules past k) entry) ≡ true)

  -- none turns the queue
  abbrev pub NoneAccepted : Past → ℕ → Type 0
  NoneAccepted past q = (k : ℕ) (entry : Sqe) → IsPending past k entry → IsAccepted past k entry → turns_sq (admin_command_of entry) q ≡ true → ⊥

  -- of those that turn one queue one alone is pending
  abbrev pub AreAlone : Past → Type 0
  AreAlone past = (q k j : ℕ) (one other : Sqe) → IsPending past k one → IsPending past j other → turns_sq (admin_command_of one) q ≡ true → turns_sq (admin_command_of other) q ≡ true → k ≡ j

  abbrev pub Quiet : Past → ℕ → Type 0
  Quiet past q = QuietBy q (effects_since past) (made_last rules past)

  -- a Create of the queue, on a region of so many slots
  pub record IsCreate (entry : Sqe) (q slots cqid : ℕ) : Type 0 where
    pub qsize : ℕ
    pub prp1 : ℕ
    pub qprio : ℕ
    pub pc : Bool
    pub command_is : admin_command_of entry ≡ CreateSq q qsize prp1 cqid qprio pc
    pub slots_are : slots ≡ qsize + 1

  -- ---- regions
  -- all its commands have their completions
  abbrev pub IsServed : Past → ℕ → Type 0
  IsServed past s = (i : ℕ) (entry : Sqe) → entry_at past s i ≡ Some entry → is_posted past s i ≡ true

  -- so those of all regions of the queue's identifier, and of all but one
  abbrev pub AllServed : Past → ℕ → Type 0
  AllServed past q = (s : ℕ) → qid_of_region past s ≡ Some q → IsServed past s

  abbrev pub OthersServed : Past → (q r : ℕ) → Type 0
  OthersServed past q r = (s : ℕ) → qid_of_region past s ≡ Some q → (s ≡ r → ⊥) → IsServed past s

  -- a region that no queue was opened on, and that the table uses now
  abbrev pub IsFresh : Past → ℕ → Type 0
  IsFresh past r = (qid_of_region past r ≡ None) × ((queue_table rules.start (table_history rules past)).sq_region_used r ≡ true)

  -- a region was opened for a queue, by a Create that named a completion queue
  abbrev pub IsOpenedFor : Past → (r q cqid : ℕ) → Type 0
  IsOpenedFor past r q cqid = (qid_of_region past r ≡ Some q) × (cqid_with past r ≡ Some cqid)

  -- ---- phases
  pub data Phase (past : Past) (q : ℕ) : Stage → Type 0 where
    -- no queue is there
    closed : open_sq past q ≡ None → AllServed past q → NoneAccepted past q → Quiet past q → Phase past q untold
    -- its Create was picked, and the queue is to be opened at once
    creating : (k : ℕ) (entry : Sqe) (r cqid : ℕ) (class : Class) → IsCreate entry q (sq_slots rules r) cqid → IsPending past k entry → IsAccepted past k entry
        → open_sq past q ≡ None → effects_since past ≡ [] → made_last rules past ≡ OpenSq q r cqid class ∷ [] → IsFresh past r → AllServed past q → Phase past q untold
    -- it is open, and the host isn't told
    made : (k : ℕ) (entry : Sqe) (queue : Queue) → IsCreate entry q (sq_slots rules queue.region) queue.cqid → IsPending past k entry → IsAccepted past k entry
        → open_sq past q ≡ Some queue → OthersServed past q queue.region → Quiet past q → Phase past q untold
    -- the host is told
    told : (queue : Queue) → open_sq past q ≡ Some queue → OthersServed past q queue.region → NoneAccepted past q → Quiet past q → Phase past q (told_on queue.region queue.cqid)
    -- its Delete was picked, and the deletion is to begin at once
    deleting_it : (k : ℕ) (entry : Sqe) (queue : Queue) (more : List Event) → admin_command_of entry ≡ DeleteSq q → IsPending past k entry → IsAccepted past k entry
        → latest_admin_place past ≡ Some k → open_sq past q ≡ Some queue → effects_since past ≡ [] → made_last rules past ≡ Closing q queue.region ∷ more → NoTurn q more
        → OthersServed past q queue.region → Phase past q (told_on queue.region queue.cqid)
    -- the deletion began, and the host isn't told of its end
    going : (k : ℕ) (entry : Sqe) (r cqid : ℕ) → admin_command_of entry ≡ DeleteSq q → IsPending past k entry → IsAccepted past k entry
        → open_sq past q ≡ None → IsOpenedFor past r q cqid → (deleting past r ≡ Some k) ⊎ IsServed past r → OthersServed past q r → Quiet past q → Phase past q (told_on r cqid)

  -- ---- effects
  -- effects that turn no submission queue
  abbrev pub IsCalm : Event → Type 0
  IsCalm (SetArbitration settings) = Unit {0}
  IsCalm (OpenCq qid region) = Unit {0}
  IsCalm (Abort region index) = Unit {0}
  IsCalm (ClosedCq qid region) = Unit {0}
  IsCalm e = ⊥

  pub calm : (e : Event) (past : Past) (q : ℕ) (st : Stage) → IsCalm e → EffectsAtOnce rules past e → Phase past q st → Phase (e ∷ past) q st
  calm (Fetch r i entry) past q st c h p = absurd c
  calm (Pick seen pick) past q st c h p = absurd c
  calm (OpenSq qid region cqid class) past q st c h p = absurd c
  calm (Closing qid region) past q st c h p = absurd c
  calm (Post x r i cqe) past q st c h p = absurd c
  calm (ClosedSq qid region) past q st c h p = absurd c
  calm e past q st c h (closed o s n y) = closed o s n (quiet_more q e (effects_since past) (made_last rules past) y)
  calm e past q st c h (creating k entry r cqid class is p a o none made_is fresh s) = absurd (let same : e ≡ OpenSq q r cqid class = first-is_made rules past e (OpenSq q r cqid class) [] h none made_is in cc same)
  calm e past q st c h (made k entry queue is p a o s y) = made k entry queue is p a o s (quiet_more q e (effects_since past) (made_last rules past) y)
  calm e past q st c h (told queue o s n y) = told queue o s n (quiet_more q e (effects_since past) (made_last rules past) y)
  calm e past q st c h (deleting_it k entry queue more is p a l o none made_is m s) = absurd (let same : e ≡ Closing q queue.region = first-is_made rules past e (Closing q queue.region) more h none made_is in cc same)
  calm e past q st c h (going k entry r cq is p a o own ends s y) = going k entry r cq is p a o own ends s (quiet_more q e (effects_since past) (made_last rules past) y)

  -- what the region of a queue that is opened was: that of no queue
  pub opened_fresh : (past : Past) (q r c : ℕ) (class : Class) (st : Stage) → EffectsAtOnce rules past (OpenSq q r c class) → Phase past q st → IsFresh past r
  opened_fresh past q r c class st h (closed o s n y) = absurd (quiet_open q r c class _ _ y h)
  opened_fresh past q r c class st h (creating k entry s cqid cl is p a o none made_is fresh served) =
      let same : OpenSq q r c class ≡ OpenSq q s cqid cl = first-is_made rules past (OpenSq q r c class) (OpenSq q s cqid cl) [] h none made_is in
      let region : r ≡ s = cc same in
      subst (IsFresh past) (sym region) fresh
  opened_fresh past q r c class st h (made k entry queue is p a o s y) = absurd (quiet_open q r c class _ _ y h)
  opened_fresh past q r c class st h (told queue o s n y) = absurd (quiet_open q r c class _ _ y h)
  opened_fresh past q r c class st h (deleting_it k entry queue more is p a l o none made_is m s) =
      absurd (let same : OpenSq q r c class ≡ Closing q queue.region = first-is_made rules past (OpenSq q r c class) (Closing q queue.region) more h none made_is in cc same)
  opened_fresh past q r c class st h (going k entry s cq is p a o own ends others y) = absurd (quiet_open q r c class _ _ y h)

  -- the region of another queue is opened
  module _ (past : Past) (q qid region c : ℕ) (class : Class) (other : qid ≡ q → ⊥) (fresh : qid_of_region past region ≡ None) where
    same_open : open_sq (OpenSq qid region c class ∷ past) q ≡ open_sq past q
    same_open = rw (ne_eqb qid q other) refl

    before : (s : ℕ) → qid_of_region (OpenSq qid region c class ∷ past) s ≡ Some q → qid_of_region past s ≡ Some q
    before s is = by (region == s) is where
      by : (b : Bool) → (if b then Some qid else qid_of_region past s) ≡ Some q → qid_of_region past s ≡ Some q
      by true k = absurd (other (same_Some qid q k))
      by false k = k

    still : (s : ℕ) → qid_of_region past s ≡ Some q → qid_of_region (OpenSq qid region c class ∷ past) s ≡ Some q
    still s is = rw (ne_eqb region s (λ same. none-some q (sym fresh ∙ ap (qid_of_region past) same ∙ is))) is

    still_for : (s cqid : ℕ) → IsOpenedFor past s q cqid → IsOpenedFor (OpenSq qid region c class ∷ past) s q cqid
    still_for s cqid own = (still s own.0, rw (ne_eqb region s (λ same. none-some q (sym fresh ∙ ap (qid_of_region past) same ∙ own.0))) own.1)

    pub open_other : (st : Stage) → EffectsAtOnce rules past (OpenSq qid region c class) → Phase past q st → Phase (OpenSq qid region c class ∷ past) q st
    open_other st h (closed o s n y) = closed (same_open ∙ o) (λ t is. s t (before t is)) n (quiet_more q _ (effects_since past) (made_last rules past) y)
    open_other st h (creating k entry r cqid cl is p a o none made_is f s) =
        absurd (let same : OpenSq qid region c class ≡ OpenSq q r cqid cl = first-is_made rules past (OpenSq qid region c class) (OpenSq q r cqid cl) [] h none made_is in other (cc same))
    open_other st h (made k entry queue is p a o s y) = made k entry queue is p a (same_open ∙ o) (λ t own. s t (before t own)) (quiet_more q _ (effects_since past) (made_last rules past) y)
    open_other st h (told queue o s n y) = told queue (same_open ∙ o) (λ t own. s t (before t own)) n (quiet_more q _ (effects_since past) (made_last rules past) y)
    open_other st h (deleting_it k entry queue more is p a l o none made_is m s) =
        absurd (let same : OpenSq qid region c class ≡ Closing q queue.region = first-is_made rules past (OpenSq qid region c class) (Closing q queue.region) more h none made_is in cc same)
    open_other st h (going k entry r cq is p a o own ends s y) = going k entry r cq is p a (same_open ∙ o) (still_for r cq own) ends (λ t is. s t (before t is)) (quiet_more q _ (effects_since past) (made_last rules past) y)

  -- the queue is opened
  pub open_own : (past : Past) (q r c : ℕ) (class : Class) (st : Stage) → EffectsAtOnce rules past (OpenSq q r c class) → Phase past q st → Phase (OpenSq q r c class ∷ past) q st
  open_own past q r c class st h (closed o s n y) = absurd (quiet_open q r c class _ _ y h)
  open_own past q r c class st h (creating k entry s cqid cl is p a o none made_is fresh served) =
      let same : OpenSq q r c class ≡ OpenSq q s cqid cl = first-is_made rules past (OpenSq q r c class) (OpenSq q s cqid cl) [] h none made_is in
      let region : s ≡ r = cc same in
      let to : cqid ≡ c = cc same in
      made k entry (record { region = r; cqid = c; class = class })
      (subst (λ (z : ℕ). IsCreate entry q (sq_slots rules r) z) to (subst (λ (z : ℕ). IsCreate entry q (sq_slots rules z) cqid) region is))
      p a (rw (eq-eqb q q refl) refl)
      (λ t own other. served t (by (r == t) refl own other))
      (quiet_whole q (effects_since past ++ OpenSq q r c class ∷ []) (made_last rules past) (ap (λ (xs : List Event). xs ++ OpenSq q r c class ∷ []) none ∙ ap (λ (e : Event). e ∷ []) same ∙ sym made_is)) where
        by : {t : ℕ} (b : Bool) → (r == t) ≡ b → (if b then Some q else qid_of_region past t) ≡ Some q → (t ≡ r → ⊥) → qid_of_region past t ≡ Some q
        by {t = t} true e k other = absurd (other (sym (eqb-true r t e)))
        by false e k other = k
  open_own past q r c class st h (made k entry queue is p a o s y) = absurd (quiet_open q r c class _ _ y h)
  open_own past q r c class st h (told queue o s n y) = absurd (quiet_open q r c class _ _ y h)
  open_own past q r c class st h (deleting_it k entry queue more is p a l o none made_is m s) =
      absurd (let same : OpenSq q r c class ≡ Closing q queue.region = first-is_made rules past (OpenSq q r c class) (Closing q queue.region) more h none made_is in cc same)
  open_own past q r c class st h (going k entry s cq is p a o own ends others y) = absurd (quiet_open q r c class _ _ y h)

  -- the deletion of another queue begins
  pub closing_other : (past : Past) (q qid region : ℕ) (st : Stage) → (qid ≡ q → ⊥) → ((r : ℕ) → qid_of_region past r ≡ Some q → r ≡ region → ⊥) → EffectsAtOnce rules past (Closing qid region) → Phase past q st → Phase (Closing qid region ∷ past) q st
  closing_other past q qid region st other apart h = by st where
    same_open : open_sq (Closing qid region ∷ past) q ≡ open_sq past q
    same_open = rw (ne_eqb qid q other) refl

    by : (z : Stage) → Phase past q z → Phase (Closing qid region ∷ past) q z
    by z (closed o s n y) = closed (same_open ∙ o) s n (quiet_more q _ (effects_since past) (made_last rules past) y)
    by z (creating k entry r cqid cl is p a o none made_is f s) =
        absurd (let same : Closing qid region ≡ OpenSq q r cqid cl = first-is_made rules past (Closing qid region) (OpenSq q r cqid cl) [] h none made_is in cc same)
    by z (made k entry queue is p a o s y) = made k entry queue is p a (same_open ∙ o) s (quiet_more q _ (effects_since past) (made_last rules past) y)
    by z (told queue o s n y) = told queue (same_open ∙ o) s n (quiet_more q _ (effects_since past) (made_last rules past) y)
    by z (deleting_it k entry queue more is p a l o none made_is m s) =
        absurd (let same : Closing qid region ≡ Closing q queue.region = first-is_made rules past (Closing qid region) (Closing q queue.region) more h none made_is in other (cc same))
    by z (going k entry r cq is p a o own ends s y) =
        going k entry r cq is p a (same_open ∙ o) own (elim ends [ inl d ↦ inl (rw (ne_eqb region r (λ same. apart r own.0 (sym same))) d) | inr d ↦ inr d ]) s (quiet_more q _ (effects_since past) (made_last rules past) y)

  -- the queue's own deletion begins
  pub closing_own : (past : Past) (q r : ℕ) (st : Stage) → ((queue : Queue) → open_sq past q ≡ Some queue → IsOpenedFor past queue.region q queue.cqid) → EffectsAtOnce rules past (Closing q r) → Phase past q st → Phase (Closing q r ∷ past) q st
  closing_own past q r st owned h (closed o s n y) = absurd (quiet_closing q r _ _ y h)
  closing_own past q r st owned h (creating k entry s cqid cl is p a o none made_is fresh served) =
      absurd (let same : Closing q r ≡ OpenSq q s cqid cl = first-is_made rules past (Closing q r) (OpenSq q s cqid cl) [] h none made_is in cc same)
  closing_own past q r st owned h (made k entry queue is p a o s y) = absurd (quiet_closing q r _ _ y h)
  closing_own past q r st owned h (told queue o s n y) = absurd (quiet_closing q r _ _ y h)
  closing_own past q r st owned h (deleting_it k entry queue more is p a l o none made_is m s) =
      let same : Closing q r ≡ Closing q queue.region = first-is_made rules past (Closing q r) (Closing q queue.region) more h none made_is in
      let region : r ≡ queue.region = cc same in
      let made_all : (effects_since past ++ Closing q r ∷ []) ++ more ≡ made_last rules past = ap (λ (xs : List Event). (xs ++ Closing q r ∷ []) ++ more) none ∙ ap (λ (e : Event). e ∷ more) same ∙ sym made_is in
      going k entry queue.region queue.cqid is p a (rw (eq-eqb q q refl) refl) (owned queue o) (inl (rw (eq-eqb r queue.region region) l)) s
      (λ rest all. subst (NoTurn q) (same_rest (effects_since past ++ Closing q r ∷ []) more rest (made_all ∙ sym all)) m) where
        same_rest : (xs ys zs : List Event) → xs ++ ys ≡ xs ++ zs → ys ≡ zs
        same_rest [] ys zs e = e
        same_rest (x ∷ xs) ys zs e = same_rest xs ys zs (cc e)
  closing_own past q r st owned h (going k entry s cq is p a o own ends others y) = absurd (quiet_closing q r _ _ y h)

  -- the region of a deletion that begins is that of its queue
  pub closing_region : (past : Past) (q r : ℕ) (st : Stage) → ((queue : Queue) → open_sq past q ≡ Some queue → qid_of_region past queue.region ≡ Some q) → EffectsAtOnce rules past (Closing q r) → Phase past q st → qid_of_region past r ≡ Some q
  closing_region past q r st owned h (closed o s n y) = absurd (quiet_closing q r _ _ y h)
  closing_region past q r st owned h (creating k entry s cqid cl is p a o none made_is fresh served) =
      absurd (let same : Closing q r ≡ OpenSq q s cqid cl = first-is_made rules past (Closing q r) (OpenSq q s cqid cl) [] h none made_is in cc same)
  closing_region past q r st owned h (made k entry queue is p a o s y) = absurd (quiet_closing q r _ _ y h)
  closing_region past q r st owned h (told queue o s n y) = absurd (quiet_closing q r _ _ y h)
  closing_region past q r st owned h (deleting_it k entry queue more is p a l o none made_is m s) =
      let same : Closing q r ≡ Closing q queue.region = first-is_made rules past (Closing q r) (Closing q queue.region) more h none made_is in
      let region : r ≡ queue.region = cc same in
      ap (qid_of_region past) region ∙ owned queue o
  closing_region past q r st owned h (going k entry s cq is p a o own ends others y) = absurd (quiet_closing q r _ _ y h)
