-- What is kept of a key, once one more came of it.
use Rattle.std.proofs.Common.{◌≡◌, ℕ, ◌+◌, ◌*◌, ◌<◌, ◌≤◌, inl, inr, true, false, List, [], ◌∷◌, ◌++◌, length, set, refl, sym, ap, ◌∙◌, subst, arith, true≢false}
use Rattle.std.proofs.lemmas.List.{get_or-set_same, get_or_default}
use Rattle.std.specs.Prelude.{Option, Some, None, Result, Ok, Err, OnOk, IfSome, IfNone, get_or, is_some, All, if◌then◌else◌}
use Rattle.afdx_config.specs.Lawful.{IsLawfulSwitch}
use Rattle.afdx_config.specs.Rows.{LinkRow, Rows}
use Rattle.afdx_police.specs.Arrival.{Arrival}
use Rattle.afdx_conform.specs.Streams.{Gone, Terms}
use Rattle.afdx_conform.specs.Growing.{IsNoSooner, IsSameOrLater}
use Rattle.afdx_command_conform.specs.Awaited.{Awaits}
use Rattle.afdx_command_conform.specs.Choices.{Choices}
use Rattle.afdx_command_conform.specs.Frames.{link_to, terms_at}
use Rattle.afdx_command_conform.specs.Keeping.{AreKept, Given, IsOfLink, IsStreamOf, KeyStands, KeyStandsBy, LinkStands, given_with, is_known, is_known_by, nothing_given, slot_at, with_came, with_left, with_strange}
use Rattle.afdx_command_conform.specs.Keys.{is_key, key_place}
use Rattle.afdx_command_conform.specs.Lines.{AreInOrder, Due, of_key}
use Rattle.afdx_command_conform.specs.Slots.{AreFalling, IsNewlyDue, IsStream, IsStrange, StrangersStand, StreamEnds, StreamStands}
use Rattle.afdx_command_conform.specs.Waiting.{slot_due}
use Rattle.afdx_command_conform.specs.declared.kept.KeptByKey.{KeptByKey}
use Rattle.afdx_command_conform.specs.declared.key.Key.{Key}
use Rattle.afdx_command_conform.specs.declared.slot.Slot.{Slot}
use Rattle.afdx_command_conform.specs.declared.slot.Slot.TheVariants.{Nothing, Strangers, Stream}
use Rattle.afdx_command_conform.proofs.KeyLemmas.{key-cases, key-self, key-same, known-stream, known-within}
use Rattle.afdx_command_conform.proofs.KeptLemmas.{kept-added}

-- ---- what stands for a stream

module _ (t : Rows) (c : Choices) (until : ℕ) (time : ℕ) (k : Key) (l : LinkRow) (given : Given) (lines : List Due)
    (slot : Slot) where
  pub to-stream : IsStreamOf t k l → KeyStands t c until None time k given lines slot
      → StreamStands (terms_at t c until l k.port) k given.came given.left lines time slot
  unfolding KeyStands
  to-stream is stands = by k.link is stands
    where
      by : (o : Option ℕ) → IsOfLink t k l o → KeyStandsBy t c until None time k given lines slot o
          → StreamStands (terms_at t c until l k.port) k given.came given.left lines time slot
      by None h s = absurd h
      by (Some place) h s = subst (λ o. LinkStands t c until None time k given lines slot o) h s

  pub from-stream : IsStreamOf t k l → StreamStands (terms_at t c until l k.port) k given.came given.left lines time
      slot
      → KeyStands t c until None time k given lines slot
  unfolding KeyStands
  from-stream is stands = by k.link is
    where
      by : (o : Option ℕ) → IsOfLink t k l o → KeyStandsBy t c until None time k given lines slot o
      by None h = absurd h
      by (Some place) h = subst (λ o. LinkStands t c until None time k given lines slot o) (sym h) stands

  pub to-ended : (end : ℕ) → IsStreamOf t k l → KeyStands t c until (Some end) time k given lines slot
      → (end ≡ until) × StreamEnds (terms_at t c until l k.port) k given.came given.left lines slot
  unfolding KeyStands
  to-ended end is stands = by k.link is stands
    where
      by : (o : Option ℕ) → IsOfLink t k l o → KeyStandsBy t c until (Some end) time k given lines slot o
          → (end ≡ until) × StreamEnds (terms_at t c until l k.port) k given.came given.left lines slot
      by None h s = absurd h
      by (Some place) h s = subst (λ o. LinkStands t c until (Some end) time k given lines slot o) h s

  pub from-ended : (end : ℕ) → IsStreamOf t k l
      → (end ≡ until) × StreamEnds (terms_at t c until l k.port) k given.came given.left lines slot
      → KeyStands t c until (Some end) time k given lines slot
  unfolding KeyStands
  from-ended end is stands = by k.link is
    where
      by : (o : Option ℕ) → IsOfLink t k l o → KeyStandsBy t c until (Some end) time k given lines slot o
      by None h = absurd h
      by (Some place) h = subst (λ o. LinkStands t c until (Some end) time k given lines slot o) (sym h) stands

pub to-strangers : (t : Rows) (c : Choices) (until : ℕ) (ended : Option ℕ) (time : ℕ) (k : Key) (given : Given)
    (lines : List Due) (slot : Slot)
    → k.link ≡ None → KeyStands t c until ended time k given lines slot → StrangersStand k given.strange lines slot
unfolding KeyStands
to-strangers t c until ended time k given lines slot none stands =
    subst (λ o. KeyStandsBy t c until ended time k given lines slot o) none stands

pub from-strangers : (t : Rows) (c : Choices) (until : ℕ) (ended : Option ℕ) (time : ℕ) (k : Key) (given : Given)
    (lines : List Due) (slot : Slot)
    → k.link ≡ None → StrangersStand k given.strange lines slot → KeyStands t c until ended time k given lines slot
unfolding KeyStands
from-strangers t c until ended time k given lines slot none stands =
    subst (λ o. KeyStandsBy t c until ended time k given lines slot o) (sym none) stands

-- ---- what is given

pub came-there : (key : Key) (x : Arrival) (given : Key → Given)
    → with_came key x given key ≡ given_with ((given key).came ++ x ∷ []) (given key).left (given key).strange
came-there key x given = ap (λ b. if b then given_with ((given key).came ++ x ∷ []) (given key).left (given key).strange
    else given key) (key-self key)

pub came-elsewhere : (key : Key) (x : Arrival) (given : Key → Given) (k : Key) → is_key key k ≡ false
    → with_came key x given k ≡ given k
came-elsewhere key x given k other = ap (λ b. if b then given_with ((given k).came ++ x ∷ []) (given k).left
    (given k).strange
    else given k) other

pub left-there : (key : Key) (y : Gone) (given : Key → Given)
    → with_left key y given key ≡ given_with (given key).came ((given key).left ++ y ∷ []) (given key).strange
left-there key y given = ap (λ b. if b then given_with (given key).came ((given key).left ++ y ∷ []) (given key).strange
    else given key) (key-self key)

pub left-elsewhere : (key : Key) (y : Gone) (given : Key → Given) (k : Key) → is_key key k ≡ false
    → with_left key y given k ≡ given k
left-elsewhere key y given k other = ap (λ b. if b then given_with (given k).came ((given k).left ++ y ∷ [])
    (given k).strange
    else given k) other

pub strange-there : (key : Key) (d : Due) (given : Key → Given)
    → with_strange key d given key ≡ given_with (given key).came (given key).left (d ∷ (given key).strange)
strange-there key d given = ap (λ b. if b then given_with (given key).came (given key).left (d ∷ (given key).strange)
    else given key) (key-self key)

pub strange-elsewhere : (key : Key) (d : Due) (given : Key → Given) (k : Key) → is_key key k ≡ false
    → with_strange key d given k ≡ given k
strange-elsewhere key d given k other =
    ap (λ b. if b then given_with (given k).came (given k).left (d ∷ (given k).strange)
    else given k) other

-- of each key, where it is so of the one and stays so of the others
pub at-each : (P : Key → Type 0) (key : Key) → P key → ((k : Key) → is_key key k ≡ false → P k) → (k : Key) → P k
at-each P key here others k = elim (key-cases key k) [
  | inl same ↦ subst P (key-same key k same) here
  | inr other ↦ others k other
]

-- ---- a stream

nothing-there : (z : Terms) (k : Key) (xs : List Arrival) (ys : List Gone) (lines : List Due) (time : ℕ) (slot : Slot)
    → (IsStream slot → ⊥) → StreamStands z k xs ys lines time slot
    → (xs ≡ []) × (ys ≡ []) × (lines ≡ []) × (slot_due slot ≡ None)
unfolding StreamStands slot_due
nothing-there z k xs ys lines time Nothing none stands = (stands.0, stands.1, stands.2, refl)
nothing-there z k xs ys lines time (Strangers s) none stands = absurd stands
nothing-there z k xs ys lines time (Stream s told) none stands = absurd (none tt)

module _ (t : Rows) (c : Choices) (until : ℕ) (lawful : IsLawfulSwitch t) (time : ℕ) (given : Key → Given)
    (lines : List Due)
    (old new : KeptByKey) (key : Key) (slot : Slot) (due : Option ℕ) (at : ℕ) where
  pub kept-came : (l : LinkRow) (x : Arrival)
      → IsStreamOf t key l
      → AreKept t c until None time given lines old
      → (StreamStands (terms_at t c until l key.port) key (given key).came (given key).left (of_key key lines) time
      (slot_at old.slots.items key)
      → StreamStands (terms_at t c until l key.port) key ((given key).came ++ x ∷ []) (given key).left
      (of_key key lines) time slot)
      → IsNewlyDue (slot_due (slot_at old.slots.items key)) due (slot_due slot)
      → IsSameOrLater (slot_due (slot_at old.slots.items key)) at (slot_due slot)
      → time ≤ at
      → Awaits due key old.agenda new.agenda
      → new.slots.items ≡ set old.slots.items (key_place key) slot
      → AreKept t c until None time (with_came key x given) lines new
  kept-came l x is kept next newly later le awaits slots =
      let known = known-stream t key l is in
      kept-added t c until lawful time given (with_came key x given) lines old new key slot due at known kept
      (subst (λ g. KeyStands t c until None time key g (of_key key lines) slot) (sym (came-there key x given))
      (from-stream t c until time key l (given_with ((given key).came ++ x ∷ []) (given key).left (given key).strange)
      (of_key key lines) slot is
      (next (to-stream t c until time key l (given key) (of_key key lines) (slot_at old.slots.items key) is
      (kept.stand key known)))))
      (came-elsewhere key x given) newly later le awaits slots
      (at-each (λ k. AreFalling (with_came key x given k).strange) key
      (subst (λ g. AreFalling g.strange) (sym (came-there key x given)) (kept.falling key))
      (λ k other. subst (λ g. AreFalling g.strange) (sym (came-elsewhere key x given k other)) (kept.falling k)))

  pub kept-left : (l : LinkRow) (y : Gone)
      → IsStreamOf t key l
      → AreKept t c until None time given lines old
      → (StreamStands (terms_at t c until l key.port) key (given key).came (given key).left (of_key key lines) time
      (slot_at old.slots.items key)
      → StreamStands (terms_at t c until l key.port) key (given key).came ((given key).left ++ y ∷ [])
      (of_key key lines) time slot)
      → IsNewlyDue (slot_due (slot_at old.slots.items key)) due (slot_due slot)
      → IsSameOrLater (slot_due (slot_at old.slots.items key)) at (slot_due slot)
      → time ≤ at
      → Awaits due key old.agenda new.agenda
      → new.slots.items ≡ set old.slots.items (key_place key) slot
      → AreKept t c until None time (with_left key y given) lines new
  kept-left l y is kept next newly later le awaits slots =
      let known = known-stream t key l is in
      kept-added t c until lawful time given (with_left key y given) lines old new key slot due at known kept
      (subst (λ g. KeyStands t c until None time key g (of_key key lines) slot) (sym (left-there key y given))
      (from-stream t c until time key l (given_with (given key).came ((given key).left ++ y ∷ []) (given key).strange)
      (of_key key lines) slot is
      (next (to-stream t c until time key l (given key) (of_key key lines) (slot_at old.slots.items key) is
      (kept.stand key known)))))
      (left-elsewhere key y given) newly later le awaits slots
      (at-each (λ k. AreFalling (with_left key y given k).strange) key
      (subst (λ g. AreFalling g.strange) (sym (left-there key y given)) (kept.falling key))
      (λ k other. subst (λ g. AreFalling g.strange) (sym (left-elsewhere key y given k other)) (kept.falling k)))

  pub kept-strange : (d : Due)
      → key.link ≡ None
      → is_known t key ≡ true
      → AreKept t c until None time given lines old
      → (StrangersStand key (given key).strange (of_key key lines) (slot_at old.slots.items key)
      → StrangersStand key (d ∷ (given key).strange) (of_key key lines) slot)
      → IsNewlyDue (slot_due (slot_at old.slots.items key)) due (slot_due slot)
      → IsSameOrLater (slot_due (slot_at old.slots.items key)) at (slot_due slot)
      → time ≤ at
      → Awaits due key old.agenda new.agenda
      → new.slots.items ≡ set old.slots.items (key_place key) slot
      → AreFalling (d ∷ (given key).strange)
      → AreKept t c until None time (with_strange key d given) lines new
  kept-strange d none known kept next newly later le awaits slots falling =
      kept-added t c until lawful time given (with_strange key d given) lines old new key slot due at known kept
      (subst (λ g. KeyStands t c until None time key g (of_key key lines) slot) (sym (strange-there key d given))
      (from-strangers t c until None time key (given_with (given key).came (given key).left (d ∷ (given key).strange))
      (of_key key lines) slot none
      (next (to-strangers t c until None time key (given key) (of_key key lines) (slot_at old.slots.items key) none
      (kept.stand key known)))))
      (strange-elsewhere key d given) newly later le awaits slots
      (at-each (λ k. AreFalling (with_strange key d given k).strange) key
      (subst (λ g. AreFalling g.strange) (sym (strange-there key d given)) falling)
      (λ k other. subst (λ g. AreFalling g.strange) (sym (strange-elsewhere key d given k other)) (kept.falling k)))

-- a stream is put where there was none
pub kept-put : (t : Rows) (c : Choices) (until : ℕ) (lawful : IsLawfulSwitch t) (time : ℕ) (given : Key → Given)
    (lines : List Due)
    (old new : KeptByKey) (key : Key) (slot : Slot) (l : LinkRow)
    → IsStreamOf t key l
    → AreKept t c until None time given lines old
    → (IsStream (slot_at old.slots.items key) → ⊥)
    → StreamStands (terms_at t c until l key.port) key [] [] [] time slot
    → slot_due slot ≡ None
    → new.agenda ≡ old.agenda
    → new.slots.items ≡ set old.slots.items (key_place key) slot
    → AreKept t c until None time given lines new
kept-put t c until lawful time given lines old new key slot l is kept none stands no-due agenda slots =
    let known = known-stream t key l is in
    let was = nothing-there (terms_at t c until l key.port) key (given key).came (given key).left (of_key key lines)
    time
    (slot_at old.slots.items key) none
    (to-stream t c until time key l (given key) (of_key key lines) (slot_at old.slots.items key) is
    (kept.stand key known)) in
    let z = terms_at t c until l key.port in
    kept-added t c until lawful time given given lines old new key slot None time known kept
    (from-stream t c until time key l (given key) (of_key key lines) slot is
    (subst (λ ls. StreamStands z key (given key).came (given key).left ls time slot) (sym was.2)
    (subst (λ ys. StreamStands z key (given key).came ys [] time slot) (sym was.1)
    (subst (λ xs. StreamStands z key xs [] [] time slot) (sym was.0) stands))))
    (λ k other. refl) (inr no-due) (inr (subst (λ d. IsNoSooner time d) (sym no-due) tt)) (omega arith) agenda slots
    kept.falling

pub put-there : (slots : List Slot) (key : Key) (slot : Slot) → key_place key < length slots → IsStream slot
    → IsStream (slot_at (set slots (key_place key) slot) key)
put-there slots key slot within is = subst IsStream (sym (get_or-set_same slots (key_place key) slot Nothing within)) is

pub on-ok : {X E : Type 0} {P Q : Type 0} → (P → Q) → (r : Result X E) → OnOk r P → OnOk r Q
on-ok f (Ok x) p = f p
on-ok f (Err e) p = tt

-- what is read at a key's place
pub read-there : (slots : List Slot) (key : Key) (place : ℕ) (s : Slot) → place ≡ key_place key
    → key_place key < length slots
    → s ≡ get_or slots place s → s ≡ slot_at slots key
read-there slots key place s at within is =
    is ∙ ap (λ n. get_or slots n s) at ∙ get_or_default slots (key_place key) s Nothing within

-- the place of a key of the tables is there
pub stands-within : (t : Rows) (c : Choices) (until : ℕ) (ended : Option ℕ) (time : ℕ) (given : Key → Given)
    (lines : List Due)
    (kept : KeptByKey) (key : Key) → IsLawfulSwitch t → is_known t key ≡ true →
    AreKept t c until ended time given lines kept
    → key_place key < length kept.slots.items
stands-within t c until ended time given lines kept key lawful known are =
    subst (λ n. key_place key < n) (sym are.count) (known-within t key lawful known)

-- nothing was kept, and nothing is awaited
pub kept-none : (t : Rows) (c : Choices) (until : ℕ) (time : ℕ) (kept : KeptByKey)
    → length kept.slots.items ≡ 512 + 64 * length t.links
    → ((k : Key) → slot_at kept.slots.items k ≡ Nothing)
    → kept.agenda ≡ []
    → AreKept t c until None time nothing_given [] kept
unfolding KeyStands StreamStands StrangersStand AreInOrder AreFalling slot_due is_known
kept-none t c until time kept count nothing agenda = record {
  stand = λ k known. subst (λ s. KeyStands t c until None time k (nothing_given k) [] s) (sym (nothing k))
      (stands k k.link known);
  none = λ k unknown. refl;
  count = count;
  on_agenda = λ k m known is. let no : None ≡ Some m = sym (ap slot_due (nothing k)) ∙ is in absurd (cc);
  known = subst (λ l. All (λ e. is_known t e.key ≡ true) l) (sym agenda) (λ i d lt. absurd (omega (arith, lt)));
  behind = λ k m known is. let no : None ≡ Some m = sym (ap slot_due (nothing k)) ∙ is in absurd (cc);
  in_order = tt;
  early = λ none. omega arith;
  falling = λ k. tt;
}
  where
    stands : (k : Key) (o : Option ℕ) → is_known_by t k o ≡ true → KeyStandsBy t c until None time k (nothing_given k)
        [] Nothing o
    stands k None known = (refl, refl)
    stands k (Some place) known = linked (link_to t place k.port) known
      where
        linked : (o : Option LinkRow) → is_some o ≡ true → LinkStands t c until None time k (nothing_given k) []
            Nothing o
        linked None h = absurd (true≢false (sym h))
        linked (Some l) h = (refl, refl, refl)

-- ---- frames of no stream

nothing-strange : (k : Key) (all lines : List Due) (slot : Slot) → (IsStrange slot → ⊥)
    → StrangersStand k all lines slot
    → (all ≡ []) × (lines ≡ []) × (slot_due slot ≡ None)
unfolding StrangersStand slot_due
nothing-strange k all lines Nothing none stands = (stands.0, stands.1, refl)
nothing-strange k all lines (Strangers s) none stands = absurd (none tt)
nothing-strange k all lines (Stream s told) none stands = absurd stands

-- room for them is put where there was none
pub kept-room : (t : Rows) (c : Choices) (until : ℕ) (lawful : IsLawfulSwitch t) (time : ℕ) (given : Key → Given)
    (lines : List Due)
    (old new : KeptByKey) (key : Key) (slot : Slot)
    → key.link ≡ None
    → is_known t key ≡ true
    → AreKept t c until None time given lines old
    → (IsStrange (slot_at old.slots.items key) → ⊥)
    → StrangersStand key [] [] slot
    → slot_due slot ≡ None
    → new.agenda ≡ old.agenda
    → new.slots.items ≡ set old.slots.items (key_place key) slot
    → AreKept t c until None time given lines new
kept-room t c until lawful time given lines old new key slot no-link known kept none stands no-due agenda slots =
    let was = nothing-strange key (given key).strange (of_key key lines) (slot_at old.slots.items key) none
    (to-strangers t c until None time key (given key) (of_key key lines) (slot_at old.slots.items key) no-link
    (kept.stand key known)) in
    kept-added t c until lawful time given given lines old new key slot None time known kept
    (from-strangers t c until None time key (given key) (of_key key lines) slot no-link
    (subst (λ ls. StrangersStand key (given key).strange ls slot) (sym was.1)
    (subst (λ all. StrangersStand key all [] slot) (sym was.0) stands)))
    (λ k other. refl) (inr no-due) (inr (subst (λ d. IsNoSooner time d) (sym no-due) tt)) (omega arith) agenda slots
    kept.falling

pub room-there : (slots : List Slot) (key : Key) (slot : Slot) → key_place key < length slots → IsStrange slot
    → IsStrange (slot_at (set slots (key_place key) slot) key)
room-there slots key slot within is =
    subst IsStrange (sym (get_or-set_same slots (key_place key) slot Nothing within)) is

pub if-some : {X : Type 0} {P Q : X → Type 0} → ((x : X) → P x → Q x) → (o : Option X) → IfSome o P → IfSome o Q
if-some f (Some x) p = f x p
if-some f None p = tt

pub if-none : {X P Q : Type 0} → (P → Q) → (o : Option X) → IfNone o P → IfNone o Q
if-none f (Some x) p = tt
if-none f None p = f p
