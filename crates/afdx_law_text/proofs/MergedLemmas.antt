-- Merged texts hold each of them.
use Rattle.std.proofs.Common.{◌≡◌, ◌≢◌, ℕ, zero, suc, Bool, true, false, if◌then◌else◌, List, []}
use Rattle.std.proofs.Common.{◌∷◌, filter, Some, inl, inr, refl, sym, ap, subst, ◌∙◌, arith, ◌||◌}
use Rattle.std.specs.List.{slice_get}
use Rattle.afdx_frame.specs.declared.link.Side.{Side}
use Rattle.afdx_config.specs.Lawful.{IsLawful, AreDistinct}
use Rattle.afdx_config.specs.Admission.{IsAdmitted}
use Rattle.afdx_config.specs.Rows.{SystemRow, Rows}
use Rattle.afdx_input_lines.specs.FrameLines.{line_says}
use Rattle.afdx_input_lines.specs.Lines.{lines_of}
use Rattle.afdx_frame.specs.declared.link.Side.TheVariants.{A, B}
use Rattle.afdx_command_tables.specs.sending.Text.{send_text}
use Rattle.afdx_law_text.specs.EndToEnd.{says_at, lines_at, HasSent}
use Rattle.afdx_law_text.specs.Merged.{AreMerged, Sender, is_at, lines_sent, AreTextsMerged, MergedAreToldOnce}
use Rattle.afdx_law_text.proofs.EmittedLemmas.{Laws}
use Rattle.afdx_law_text.proofs.EndToEndLemmas.{taken-is-told, text-elsewhere}

-- ---- two lists

merged-left : (p : List ℕ → Bool) (list ones others : List (List ℕ)) → AreMerged list ones others
    → filter p others ≡ [] → filter p list ≡ filter p ones
merged-left p [] ones others h none = ap (filter p) (sym h.0)
merged-left p (line ∷ list) ones others h none = elim h [
  | inl k ↦ ap (λ z. if p line then line ∷ z else z) (merged-left p list k.0 others k.2 none) ∙ ap (filter p) (sym k.1)
  | inr k ↦ (let none' : filter p (line ∷ k.0) ≡ [] = ap (filter p) (sym k.1)
      ∙ none in by k.0 (p line) refl none' (λ rest_none. merged-left p list ones k.0 k.2 rest_none))
]
  where
    by : (rest : List (List ℕ)) (b : Bool) → p line ≡ b
        → (if b then line ∷ filter p rest else filter p rest) ≡ []
        → (filter p rest ≡ [] → filter p list ≡ filter p ones) → filter p (line ∷ list) ≡ filter p ones
    by rest true e h f = absurd (cc h)
    by rest false e h f = rw e (f h)

merged-right : (p : List ℕ → Bool) (list ones others : List (List ℕ)) → AreMerged list ones others
    → filter p ones ≡ [] → filter p list ≡ filter p others
merged-right p [] ones others h none = ap (filter p) (sym h.1)
merged-right p (line ∷ list) ones others h none = elim h [
  | inl k ↦ (let none' : filter p (line ∷ k.0) ≡ [] = ap (filter p) (sym k.1)
      ∙ none in by k.0 (p line) refl none' (λ rest_none. merged-right p list k.0 others k.2 rest_none))
  | inr k ↦ ap (λ z. if p line then line ∷ z else z) (merged-right p list ones k.0 k.2 none) ∙ ap (filter p) (sym k.1)
]
  where
    by : (rest : List (List ℕ)) (b : Bool) → p line ≡ b
        → (if b then line ∷ filter p rest else filter p rest) ≡ []
        → (filter p rest ≡ [] → filter p list ≡ filter p others) → filter p (line ∷ list)
        ≡ filter p others
    by rest true e h f = absurd (cc h)
    by rest false e h f = rw e (f h)

-- ---- the R lines of a text

none-of-them : (p q : List ℕ → Bool) (xs : List (List ℕ)) → filter p xs ≡ [] → filter p (filter q xs) ≡ []
none-of-them p q [] h = refl
none-of-them p q (line ∷ lines) h = by (p line) (q line) refl h (none-of-them p q lines)
  where
    by : (a b : Bool) → p line ≡ a → (if a then line ∷ filter p lines else filter p lines) ≡ []
        → (filter p lines ≡ [] → filter p (filter q lines) ≡ [])
        → filter p (if b then line ∷ filter q lines else filter q lines) ≡ []
    by true b e k f = absurd (cc k)
    by false true e k f = rw e (f k)
    by false false e k f = f k

all-of-them : (p q : List ℕ → Bool) → ((line : List ℕ) → p line ≡ true → q line ≡ true)
    → (xs : List (List ℕ)) → filter p (filter q xs) ≡ filter p xs
all-of-them p q imply [] = refl
all-of-them p q imply (line ∷ lines) = by (q line) refl (all-of-them p q imply lines)
  where
    off : (b : Bool) → p line ≡ b → q line ≡ false → p line ≡ false
    off true e k = absurd (let on = imply line e in let f : true ≡ false = sym on ∙ k in cc f)
    off false e k = e

    by : (b : Bool) → q line ≡ b → filter p (filter q lines) ≡ filter p lines
        → filter p (if b then line ∷ filter q lines else filter q lines) ≡ filter p (line ∷ lines)
    by true e rest = ap (λ z. if p line then line ∷ z else z) rest
    by false e rest = rw (off (p line) refl e) rest

at-side : (side : Side) (port : ℕ) (line : List ℕ) → says_at side port (line_says 0 line) ≡ true
    → is_at port line ≡ true
at-side A port line h = rw h refl
at-side B port line h = rw h (or-true (says_at A port (line_says 0 line)))
  where
    or-true : (b : Bool) → (b || true) ≡ true
    or-true true = refl
    or-true false = refl

-- ---- several texts

abbrev HaveSent : Rows → List Sender → Type 0
HaveSent t senders = (i : ℕ) (x : Sender) → slice_get senders i ≡ Some x → HasSent t x.place x.row x.given x.events

-- two systems have different ports
port-other : (t : Rows) (i j : ℕ) (a b : SystemRow) → IsLawful t → slice_get t.systems i ≡ Some a
    → slice_get t.systems j ≡ Some b → i ≢ j → a.port ≢ b.port
unfolding AreDistinct
port-other t i j a b lawful h k ne e = ne (lawful.systems.ports i j a b h k e)

module _ (laws : Laws) (t : Rows) (lawful : IsLawful t) (admitted : IsAdmitted t) (side : Side) where
  -- a text has no line at another system's port
  apart : (x y : Sender) → HasSent t x.place x.row x.given x.events
      → HasSent t y.place y.row y.given y.events → x.place ≢ y.place
      → lines_at side x.row.port (lines_sent y) ≡ []
  apart x y sent_x sent_y ne =
      none-of-them (λ line. says_at side x.row.port (line_says 0 line)) (is_at y.row.port)
      (lines_of (send_text y.row y.events))
      (text-elsewhere laws t lawful admitted y.place y.row y.given y.events sent_y side x.row.port
      (port-other t x.place y.place x.row y.row lawful sent_x.stands sent_y.stands ne))

  -- nor have merged texts of others
  none-at : (x : Sender) → HasSent t x.place x.row x.given x.events
      → (list : List (List ℕ)) (senders : List Sender) (others : List (List ℕ)) → HaveSent t senders
      → AreTextsMerged list senders others →
      lines_at side x.row.port others ≡ []
      → ((i : ℕ) (y : Sender) → slice_get senders i ≡ Some y → x.place ≢ y.place)
      → lines_at side x.row.port list ≡ []
  none-at x sent list [] others all merged none other = ap (lines_at side x.row.port) merged ∙ none
  none-at x sent list (y ∷ senders) others all merged none other =
      merged-right (λ line. says_at side x.row.port (line_says 0 line)) list (lines_sent y) merged.0
      merged.1 (apart x y sent (all 0 y refl) (other 0 y refl))
      ∙ none-at x sent merged.0 senders others (λ i. all (suc i)) merged.2 none (λ i. other (suc i))

  abbrev AreApart : List Sender → Type 0
  AreApart senders = (i j : ℕ) (x y : Sender) → slice_get senders i ≡ Some x
      → slice_get senders j ≡ Some y → x.place ≡ y.place → i ≡ j

  pub holds : (list : List (List ℕ)) (senders : List Sender) (others : List (List ℕ))
      → HaveSent t senders → AreApart senders → AreTextsMerged list senders others →
      ((i : ℕ) (x : Sender) → slice_get senders i ≡ Some x → lines_at side x.row.port others ≡ [])
      → (i : ℕ) (x : Sender) → slice_get senders i ≡ Some x → lines_at side x.row.port list
      ≡ lines_at side x.row.port (lines_of (send_text x.row x.events))
  holds list [] others all distinct merged none i x at = absurd (cc at)
  holds list (y ∷ senders) others all distinct merged none zero x at =
      let same : y ≡ x = cc at in
      let sent = all 0 y refl in
      let rest : lines_at side y.row.port merged.0 ≡ [] =
      none-at y sent merged.0 senders others (λ i. all (suc i)) merged.2 (none 0 y refl)
      (λ i z there e. (let k : 0 ≡ suc i = distinct 0 (suc i) y z refl there e in absurd (omega (arith, k)))) in
      let left = merged-left (λ line. says_at side y.row.port (line_says 0 line)) list
      (lines_sent y) merged.0 merged.1 rest in
      let whole = all-of-them (λ line. says_at side y.row.port (line_says 0 line))
      (is_at y.row.port) (at-side side y.row.port) (lines_of (send_text y.row y.events)) in
      subst (λ (z : Sender). lines_at side z.row.port list
      ≡ lines_at side z.row.port (lines_of (send_text z.row z.events))) same (left ∙ whole)
  holds list (y ∷ senders) others all distinct merged none (suc i) x at =
      let sent_x = all (suc i) x at in
      let ne : x.place ≢ y.place =
      λ e. (let k : suc i ≡ 0 = distinct (suc i) 0 x y at refl e in absurd (omega (arith, k))) in
      merged-right (λ line. says_at side x.row.port (line_says 0 line)) list (lines_sent y) merged.0
      merged.1 (apart x y sent_x (all 0 y refl) ne)
      ∙ holds merged.0 senders others (λ j. all (suc j))
      (λ j k a b ha hb e. (let q : suc j ≡ suc k = distinct (suc j) (suc k) a b ha hb e in
      omega (arith, q))) merged.2 (λ j. none (suc j)) i x at

distinct-places : (senders : List Sender) → AreDistinct (λ x. x.place) senders
    → (i j : ℕ) (x y : Sender) → slice_get senders i ≡ Some x → slice_get senders j ≡ Some y
    → x.place ≡ y.place → i ≡ j
unfolding AreDistinct
distinct-places senders d i j x y h k e = d i j x y h k e

pub merged-are-told : Laws → MergedAreToldOnce
merged-are-told laws t list lines senders others m once i x at =
    taken-is-told laws t list lines m.lawful m.admitted m.sound once x.place x.row x.given x.events (m.sent i x at)
    (λ side. holds laws t m.lawful m.admitted side list senders others m.sent
    (distinct-places senders m.distinct) m.merged (λ j y there. m.elsewhere j y side there) i x at)
