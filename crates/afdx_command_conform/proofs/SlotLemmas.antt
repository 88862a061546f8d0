-- The lines of what is found at an event of a stream.
use Rattle.std.proofs.Common.{Box, Global, ◌≡◌, ℕ, ◌<◌, ◌≤◌, ◌⊎◌, inl, inr, Bool, true, false, ◌||◌, ◌==◌, List, [], ◌∷◌, ◌++◌, map, reverse, refl, sym, ap, ◌∙◌, subst, arith}
use Rattle.std.proofs.lemmas.Bool.{eqb-true}
use Rattle.std.proofs.lemmas.List.{append_assoc, map-append, reverse-append, reverse-reverse}
use Rattle.std.specs.Prelude.{if◌then◌else◌, length, not, Option, Some, None, Result, Ok, Err, IfOk, IfSome, IfNone}
use Rattle.afdx_conform.specs.Events.{moment_at}
use Rattle.afdx_conform.specs.Histories.{newest_tag, time_of, unsure_in}
use Rattle.afdx_conform.specs.Growing.{IsNoSooner}
use Rattle.afdx_conform.specs.Standing.{Finds, due_of}
use Rattle.afdx_conform.specs.Findings.{Judged, Marked, found_at}
use Rattle.afdx_conform.specs.declared.finding.Finding.{Finding}
use Rattle.afdx_conform.specs.Streams.{Terms}
use Rattle.afdx_text.specs.declared.conform_line.ConformLine.{ConformLine}
use Rattle.afdx_text.specs.declared.conform_line.ConformLine.TheVariants.{Unsure}
use Rattle.afdx_command_conform.specs.Lines.{Due, due_at, found_due, found_line, judged_dues, unsure_dues}
use Rattle.afdx_command_conform.specs.Slots.{AreFalling, Ends, IsStream, StrangersStand, StreamEnds, StreamStands, has_line, told_at, unsure_behind, waiting_due}
use Rattle.afdx_command_conform.specs.Waiting.{first_time, slot_due}
use Rattle.afdx_command_conform.specs.declared.key.Key.{Key}
use Rattle.afdx_command_conform.specs.declared.strangers.Stranger.{Stranger}
use Rattle.afdx_command_conform.specs.declared.slot.Slot.{Slot}
use Rattle.afdx_command_conform.specs.declared.slot.Slot.TheVariants as slot
use Rattle.afdx_conform.specs.declared.streaming.Stream.{Stream}

pub or-none : (a : Bool) → (a || false) ≡ a
or-none true = refl
or-none false = refl

pub or-some : (a : Bool) → (a || true) ≡ true
or-some true = refl
or-some false = refl

pub map-both : {A B C : Type 0} (f : B → C) (g : A → B) (h : A → C) → ((x : A) → f (g x) ≡ h x) → (xs : List A)
    → map f (map g xs) ≡ map h xs
map-both f g h e [] = refl
map-both f g h e (x ∷ xs) = ap (λ l. f (g x) ∷ l) (map-both f g h e xs) ∙ ap (λ y. y ∷ map h xs) (e x)

pub reverse-map : {A B : Type 0} (f : A → B) (xs : List A) → reverse (map f xs) ≡ map f (reverse xs)
reverse-map f [] = refl
reverse-map f (x ∷ xs) = reverse-append (f x ∷ []) (map f xs) ∙ ap (λ l. l ++ f x ∷ []) (reverse-map f xs)
    ∙ sym (map-append f (reverse xs) (x ∷ [])) ∙ ap (λ l. map f l) (sym (reverse-append (x ∷ []) xs))

-- the lines of findings of one event, as they are told
pub found-dues : (z : Terms) (k : Key) (m : ℕ) (found : List Finding) → moment_at z (time_of z m) ≡ m
    → map (found_due z k) (map (found_at (time_of z m)) (reverse found))
    ≡ map (due_at k m) (reverse (map (found_line k) found))
found-dues z k m found e =
    map-both (found_due z k) (found_at (time_of z m)) (λ f. due_at k m (found_line k f))
    (λ f. ap (λ n. due_at k n (found_line k f)) e) (reverse found)
    ∙ sym (map-both (due_at k m) (found_line k) (λ f. due_at k m (found_line k f))
    (λ f. refl) (reverse found))
    ∙ ap (λ l. map (due_at k m) l) (sym (reverse-map (found_line k) found))

pub newest-last : (xs : List Marked) (m : Marked) → newest_tag (xs ++ m ∷ []) ≡ Some m.arrival.tag
newest-last [] m = refl
newest-last (x ∷ []) m = refl
newest-last (x ∷ y ∷ xs) m = newest-last (y ∷ xs) m

-- the line of a stream that gets unsure
unsure-line : (z : Terms) (k : Key) (m : ℕ) (arrivals back : List Marked) (lines : List ConformLine)
    → reverse arrivals ≡ back
    → ((x : Marked) (more : List Marked) → arrivals ≡ more ++ x ∷ [] → x.arrival.time ≡ time_of z m)
    → moment_at z (time_of z m) ≡ m
    → map (due_at k m) (reverse (unsure_behind k (newest_tag arrivals) lines))
    ≡ unsure_dues z k back ++ map (due_at k m) (reverse lines)
unsure-line z k m arrivals [] lines is at e =
    let none : arrivals ≡ [] = sym (reverse-reverse arrivals) ∙ ap (λ l. reverse l) is in
    ap (λ l. map (due_at k m) (reverse (unsure_behind k (newest_tag l) lines))) none
unsure-line z k m arrivals (x ∷ back) lines is at e =
    let whole : arrivals ≡ reverse back ++ x ∷ [] =
    sym (reverse-reverse arrivals) ∙ ap (λ l. reverse l) is ∙ reverse-append (x ∷ []) back in
    ap (λ t. map (due_at k m) (reverse (unsure_behind k t lines)))
    (ap (λ l. newest_tag l) whole ∙ newest-last (reverse back) x)
    ∙ ap (λ l. map (due_at k m) l) (reverse-append lines (Unsure x.arrival.tag k.side k.port ∷ []))
    ∙ ap (λ n. due_at k n (Unsure x.arrival.tag k.side k.port) ∷ map (due_at k m) (reverse lines))
    (sym e ∙ ap (λ t. moment_at z t) (sym (at x (reverse back) whole)))

-- behind those before them
told-by : (z : Terms) (k : Key) (m : ℕ) (b : Bool) (arrivals : List Marked) (lines : List ConformLine)
    (all before : List Due)
    → all ≡ map (due_at k m) (reverse lines) ++ before
    → (b ≡ true → (x : Marked) (more : List Marked) → arrivals ≡ more ++ x ∷ [] → x.arrival.time ≡ time_of z m)
    → moment_at z (time_of z m) ≡ m
    → (if b then unsure_dues z k (reverse arrivals) else []) ++ all
    ≡ map (due_at k m) (reverse (unsure_behind k (if b then newest_tag arrivals else None) lines)) ++ before
told-by z k m false arrivals lines all before is at e = is
told-by z k m true arrivals lines all before is at e =
    ap (λ l. unsure_dues z k (reverse arrivals) ++ l) is
    ∙ sym (append_assoc (unsure_dues z k (reverse arrivals)) (map (due_at k m) (reverse lines)) before)
    ∙ ap (λ l. l ++ before) (sym (unsure-line z k m arrivals (reverse arrivals) lines refl (at refl) e))

pub told-found : (z : Terms) (k : Key) (m : ℕ) (found : List Finding) (j after : Judged) (due : Option ℕ)
    (unsure : Option ℕ) (lines all : List ConformLine)
    → Finds z m found j after due
    → unsure ≡ unsure_in after
    → lines ≡ map (found_line k) found
    → all ≡ unsure_behind k unsure lines
    → judged_dues z k after ≡ told_at k m all (judged_dues z k j)
unfolding judged_dues
told-found z k m found j after due unsure lines all f u l a =
    let sure : judged_dues z k j ≡ map (found_due z k) j.findings =
    ap (λ b. (if b then unsure_dues z k (reverse j.arrivals) else []) ++ map (found_due z k) j.findings) f.sure in
    let more : map (found_due z k) after.findings
    ≡ map (due_at k m) (reverse lines) ++ map (found_due z k) j.findings =
    ap (λ l'. map (found_due z k) l') f.are_found.findings
    ∙ map-append (found_due z k) (map (found_at (time_of z m)) (reverse found)) j.findings
    ∙ ap (λ l'. l' ++ map (found_due z k) j.findings) (found-dues z k m found f.is_moment
    ∙ ap (λ l'. map (due_at k m) (reverse l')) (sym l)) in
    told-by z k m after.is_unsure after.arrivals lines (map (found_due z k) after.findings)
    (map (found_due z k) j.findings) more f.unsure f.is_moment
    ∙ ap (λ l'. map (due_at k m) (reverse l') ++ map (found_due z k) j.findings)
    (ap (λ t. unsure_behind k t lines) (sym u) ∙ sym a)
    ∙ ap (λ l'. map (due_at k m) (reverse all) ++ l') (sym sure)

filled : (n : ℕ) → 0 < n → (n == 0) ≡ false
filled n lt = by (n == 0) refl
  where
    by : (v : Bool) → (n == 0) ≡ v → v ≡ false
    by true e = absurd (let is = eqb-true n 0 e in omega (arith, is, lt))
    by false e = refl

-- there is a line where there were some, or some are told
pub told-line : (k : Key) (m : ℕ) (lines : List ConformLine) (before : List Due) (told : Bool) → told ≡ has_line before
    → has_line (told_at k m lines before) ≡ (told || not (length lines == 0))
told-line k m [] before told is = sym (or-none told ∙ is)
told-line k m (x ∷ xs) before told is =
    ap (λ l. has_line (map (due_at k m) l ++ before)) (reverse-append (x ∷ []) xs)
    ∙ ap has_line (ap (λ l. l ++ before) (map-append (due_at k m) (reverse xs) (x ∷ []))
    ∙ append_assoc (map (due_at k m) (reverse xs)) (due_at k m x ∷ []) before)
    ∙ more (map (due_at k m) (reverse xs)) (due_at k m x) before ∙ sym (or-some told)
    ∙ ap (λ v. told || not v) (sym (filled (length (x ∷ xs)) (omega arith)))
  where
    more : (ds : List Due) (d : Due) (es : List Due) → has_line (ds ++ d ∷ es) ≡ true
    more [] d es = refl
    more (e ∷ ds) d es = refl

-- what holds of an answer, where it follows from what does
pub if-ok : {X E : Type 0} {P Q : X → Type 0} → ((x : X) → P x → Q x) → (r : Result X E) → IfOk r P → IfOk r Q
if-ok f (Ok x) p = f x p
if-ok f (Err e) p = tt

-- ---- frames of no stream

pub falling-behind : (xs : List Due) (d e : Due) (more : List Due) → AreFalling (xs ++ d ∷ e ∷ more)
    → e.moment ≤ d.moment
unfolding AreFalling
falling-behind [] d e more f = f.0
falling-behind (x ∷ []) d e more f = f.1.0
falling-behind (x ∷ y ∷ xs) d e more f = falling-behind (y ∷ xs) d e more f.1

-- the next of them is no earlier
pub later-stranger : (k : Key) (first : Stranger) (more : List Stranger) (all lines : List Due) (moment : ℕ)
    → AreFalling all
    → all ≡ map (waiting_due k) (reverse (first ∷ more)) ++ lines
    → first_time (first ∷ more) ≡ Some moment
    → IsNoSooner moment (first_time more)
later-stranger k first [] all lines moment f is at = tt
later-stranger k first (next ∷ more) all lines moment f is at =
    let moved : map (waiting_due k) (reverse (first ∷ next ∷ more)) ++ lines
    ≡ map (waiting_due k) (reverse more) ++ waiting_due k next ∷ waiting_due k first ∷ lines =
    ap (λ l. map (waiting_due k) l ++ lines) (reverse-append (first ∷ next ∷ []) more)
    ∙ ap (λ l. l ++ lines) (map-append (waiting_due k) (reverse more) (next ∷ first ∷ []))
    ∙ append_assoc (map (waiting_due k) (reverse more)) (waiting_due k next ∷ waiting_due k first ∷ []) lines in
    let order : first.time ≤ next.time =
    falling-behind (map (waiting_due k) (reverse more)) (waiting_due k next) (waiting_due k first) lines
    (subst AreFalling (is ∙ moved) f) in
    let same : first.time ≡ moment = cc in
    subst (λ m. m ≤ next.time) same order

pub later-taken : (k : Key) (before after : List Stranger) (taken : Option Stranger) (all lines : List Due) (moment : ℕ)
    → IfSome taken (λ first. before ≡ first ∷ after)
    → IfNone taken (before ≡ [])
    → AreFalling all
    → all ≡ map (waiting_due k) (reverse before) ++ lines
    → first_time before ≡ Some moment
    → IsNoSooner moment (first_time after)
later-taken k before after (Some first) all lines moment some none f is at =
    later-stranger k first after all lines moment f
    (is ∙ ap (λ l. map (waiting_due k) (reverse l) ++ lines) some) (sym (ap first_time some) ∙ at)
later-taken k before after None all lines moment some none f is at =
    let no : None ≡ Some moment = sym (ap first_time none) ∙ at in absurd cc

pub same-due : (due : Option ℕ) (value before after : Stream) → due ≡ due_of value → before ≡ value
    → (due_of after ≡ due_of before) ⊎ (due_of after ≡ None)
    → (due_of after ≡ due) ⊎ (due_of after ≡ None)
same-due due value before after is same (inl e) = inl (e ∙ ap due_of same ∙ sym is)
same-due due value before after is same (inr e) = inr e

-- what isn't a stream ends as it is
pub ends-others : (until : ℕ) (x : Slot) → (IsStream x → ⊥) → Ends until x x
unfolding StreamStands StreamEnds StrangersStand slot_due
ends-others until slot.Nothing vacant = record {
  streams = λ z k xs ys lines time is le stands. stands;
  strangers = λ k all lines stands. stands;
  due = λ z k xs ys lines time is le all stands. inl refl;
  due_strange = λ k all lines stands. refl;
}
ends-others until (slot.Strangers s) vacant = record {
  streams = λ z k xs ys lines time is le stands. absurd stands;
  strangers = λ k all lines stands. stands;
  due = λ z k xs ys lines time is le all stands. inl refl;
  due_strange = λ k all lines stands. refl;
}
ends-others until (slot.Stream s told) vacant = absurd (vacant tt)

pub not-stream : (x : Slot) → ((s : Box Stream Global) (told : Bool) → x ≡ slot.Stream s told → ⊥) → IsStream x → ⊥
not-stream slot.Nothing none is = is
not-stream (slot.Strangers s) none is = is
not-stream (slot.Stream s told) none is = none s told refl
