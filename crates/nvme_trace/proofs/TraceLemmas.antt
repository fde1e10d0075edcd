-- The line that comes next, and its fault.
use Rattle.std.proofs.Common.{◌≡◌, ◌≢◌, ℕ, ◌<◌, ltb, true, List, length, Option, Some, None, Result, Ok, Err, inl, inr, refl, sym, ap, subst, ◌∙◌}
use Rattle.std.proofs.lemmas.Bool.{lt-ltb}
use Rattle.nvme_lines.specs.Lines.{lines_of, numbered, TakesTold, StartsTold, HasNoTold, MeetsTold, longest_line}
use Rattle.nvme_lines.specs.declared.lines.NextError.TheVariants.{TooLong}
use Rattle.nvme_arbiter.specs.declared.kept.Kept.{Kept}
use Rattle.nvme_trace.specs.Readings.{Fails, seen_by}
use Rattle.nvme_trace.specs.Format.{data_of, start_of_line, head_of_kept, head_by, event_by}
use Rattle.nvme_trace.specs.declared.basis.Basis.{Basis}
use Rattle.nvme_trace.specs.Faults.{IsLineFault, HasHeadFault, IsHeadFault, IsEventFaultBy}
use Rattle.nvme_trace.specs.declared.fault.LineFault.{LineFault}
use Rattle.nvme_trace.specs.declared.fault.LineFault.TheVariants as faults
use Rattle.nvme_trace.specs.declared.fault.TraceError.{TraceError}
use Rattle.nvme_trace.specs.declared.records.Head.{Head}
use Rattle.nvme_trace.specs.declared.fault.TraceError.TheVariants as error

starts_as : (P : List ℕ → Type 0) (line : List ℕ) (m n : ℕ) (a b : Option (List ℕ)) → TakesTold (λ l. l ≡ line) m a n b → P line → StartsTold P m a n
starts_as P line m n None b t p = tt
starts_as P line m n (Some xs) None t p = absurd t
starts_as P line m n (Some xs) (Some ys) (l, split, is, all) p = (l, numbered n (lines_of ys), split, subst P (sym is) p)

-- a line of one kind comes next, so one of another that is it
starts_so : (P Q : List ℕ → Type 0) (m n : ℕ) (a : Option (List ℕ)) → ((l : List ℕ) → P l → Q l) → StartsTold P m a n → StartsTold Q m a n
starts_so P Q m n None f s = tt
starts_so P Q m n (Some xs) f (l, rest, split, is) = (l, rest, split, f l is)

-- a fault that isn't `NoMemory` is the line's
failed : {Y : Type 0} (fault : LineFault) (reading : Result Y LineFault) → Fails fault reading → fault ≢ faults.NoMemory → reading ≡ Err fault
failed faults.NoMemory reading f n = absurd (n refl)
failed faults.NoHead reading f n = f
failed faults.TooLong reading f n = f
failed faults.NotUtf8 reading f n = f
failed faults.NotJson reading f n = f
failed faults.NotObject reading f n = f
failed (faults.Missing field) reading f n = f
failed (faults.Bad field) reading f n = f
failed faults.Unknown reading f n = f
failed faults.NotObservation reading f n = f

head_starts : (fault : LineFault) (m n : ℕ) (a : Option (List ℕ)) → StartsTold (λ line. start_of_line line ≡ Err fault) m a n → HasHeadFault fault m a n
head_starts fault m n None s = tt
head_starts fault m n (Some xs) s = inr s

told_head : (e : TraceError) (m number : ℕ) (fault : LineFault) (a : Option (List ℕ)) → IsLineFault e number fault → (fault ≢ faults.NoMemory → HasHeadFault fault m a number) → IsHeadFault e m a
told_head (error.Line line f note) m number fault a (n, is, other) h =
    subst (λ (k : ℕ). HasHeadFault f m a k) (sym n) (subst (λ (x : LineFault). HasHeadFault x m a number) (sym is) (h other))
told_head error.Read m number fault a t h = tt
told_head error.NoMemory m number fault a t h = tt

told_event : (basis : Basis) (e : TraceError) (m number : ℕ) (fault : LineFault) (a : Option (List ℕ)) → IsLineFault e number fault → (fault ≢ faults.NoMemory → StartsTold (λ line. event_by basis line ≡ Err fault) m a number) → IsEventFaultBy basis e m a
told_event basis (error.Line line f note) m number fault a (n, is, other) h =
    subst (λ (k : ℕ). StartsTold (λ text. event_by basis text ≡ Err f) m a k) (sym n) (subst (λ (x : LineFault). StartsTold (λ line. event_by basis line ≡ Err x) m a number) (sym is) (h other))
told_event basis error.Read m number fault a t h = tt
told_event basis error.NoMemory m number fault a t h = tt

-- a line that was read
pub head_fails : (e : TraceError) (m number : ℕ) (fault : LineFault) (line : List ℕ) (a b : Option (List ℕ)) → IsLineFault e number fault → TakesTold (λ l. l ≡ line) m a number b → Fails fault (start_of_line line) → IsHeadFault e m a
head_fails e m number fault line a b told t f =
    told_head e m number fault a told (λ n. head_starts fault m number a (starts_as (λ l. start_of_line l ≡ Err fault) line m number a b t (failed fault (start_of_line line) f n)))

pub event_fails : (basis : Basis) (e : TraceError) (m number : ℕ) (fault : LineFault) (line : List ℕ) (a b : Option (List ℕ)) → IsLineFault e number fault → TakesTold (λ l. l ≡ line) m a number b → Fails fault (event_by basis line) → IsEventFaultBy basis e m a
event_fails basis e m number fault line a b told t f =
    told_event basis e m number fault a told (λ n. starts_as (λ l. event_by basis l ≡ Err fault) line m number a b t (failed fault (event_by basis line) f n))

-- a line that is too long
long_head : (line : List ℕ) → longest_line < length line → start_of_line line ≡ Err faults.TooLong
unfolding start_of_line data_of
long_head line h = let e : ltb longest_line (length line) ≡ true = lt-ltb _ _ h in rw e

long_event : (basis : Basis) (line : List ℕ) → longest_line < length line → event_by basis line ≡ Err faults.TooLong
unfolding event_by data_of
long_event basis line h = let e : ltb longest_line (length line) ≡ true = lt-ltb _ _ h in rw e

pub head_too_long : (e : TraceError) (m number : ℕ) (a : Option (List ℕ)) → IsLineFault e number faults.TooLong → MeetsTold TooLong m a number → IsHeadFault e m a
head_too_long e m number a told s =
    told_head e m number faults.TooLong a told (λ n. head_starts faults.TooLong m number a (starts_so (λ l. longest_line < length l) (λ l. start_of_line l ≡ Err faults.TooLong) m number a long_head s))

pub event_too_long : (basis : Basis) (e : TraceError) (m number : ℕ) (a : Option (List ℕ)) → IsLineFault e number faults.TooLong → MeetsTold TooLong m a number → IsEventFaultBy basis e m a
event_too_long basis e m number a told s =
    told_event basis e m number faults.TooLong a told (λ n. starts_so (λ l. longest_line < length l) (λ l. event_by basis l ≡ Err faults.TooLong) m number a (long_event basis) s)

-- a text of blank lines
no_line : (m : ℕ) (a : Option (List ℕ)) → HasNoTold m a → HasHeadFault faults.NoHead m a 1
no_line m None n = tt
no_line m (Some xs) n = inl (n, refl, refl)

pub no_head : (e : TraceError) (m : ℕ) (a : Option (List ℕ)) → IsLineFault e 1 faults.NoHead → HasNoTold m a → IsHeadFault e m a
no_head e m a told n = told_head e m 1 faults.NoHead a told (λ _. no_line m a n)

-- the head of what is kept
pub takes_head : (start : Kept) (head : Head) (m number : ℕ) (a b : Option (List ℕ)) → head ≡ head_of_kept start → TakesTold (λ line. start_of_line line ≡ Ok start) m a number b → TakesTold (λ line. head_by line ≡ Ok head) m a number b
takes_head start head m number None b h t = tt
takes_head start head m number (Some xs) None h t = absurd t
takes_head start head m number (Some xs) (Some ys) h (line, split, is, all) = (line, split, ap (seen_by head_of_kept) is ∙ ap (λ (x : Head). Ok x) (sym h), all)
