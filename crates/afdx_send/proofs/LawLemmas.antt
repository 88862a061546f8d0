-- Emissions are the releases, shaped: each in time, and those of a link a lawful stream.
use Rattle.std.proofs.Common.{◌≡◌, ℕ, ◌+◌, ◌<◌, ◌≤◌, ◌==◌, ◌||◌, Bool, true, false, List, []}
use Rattle.std.proofs.Common.{◌∷◌, ◌++◌, length, Option, Some, None, inl, inr, refl, sym, ap}
use Rattle.std.proofs.Common.{subst, arith, ◌∙◌, suc}
use Rattle.std.specs.Prelude.{All}
use Rattle.std.specs.List.{slice_get}
use Rattle.std.proofs.lemmas.Option.{slice_get_within}
use Rattle.std.proofs.lemmas.Bool.{cases_eq, cases_lt}
use Rattle.std.proofs.lemmas.List.{append-nil}
use Rattle.afdx_frame.specs.declared.link.Priority.TheVariants.{Low}
use Rattle.afdx_frame.proofs.ListLemmas.{slice_get-push_last, slice_get-within}
use Rattle.afdx_config.specs.Admission.{byte_ns}
use Rattle.afdx_config.specs.Rows.{LinkRow}
use Rattle.afdx_law_bounds.specs.Sender.{SenderIsInTime, one_of_each}
use Rattle.afdx_port.specs.History as port
use Rattle.afdx_port.specs.Schedule.{Entry, Turn, IsNext, AreTurns, has_turn}
use Rattle.afdx_port.specs.declared.left.Left.{Left}
use Rattle.afdx_port.specs.declared.port_state.PortState.{PortState}
use Rattle.afdx_send.specs.declared.sender_state.SenderState.{SenderState}
use Rattle.afdx_send.specs.Emissions.{LinkRelease, own, AreAllReleases, entry_for}
use Rattle.afdx_send.specs.Emissions.{entries_of}
use Rattle.afdx_send.specs.Frames.{Frame, facts}
use Rattle.afdx_send.specs.Releases.{Submission}
use Rattle.afdx_send.specs.Sender.{SenderHistory, HasGiven, flows_of, StandsFor, port_history}
use Rattle.afdx_send.proofs.EmitLemmas.{AreOurs, are_ours, more_of, get_more}
use Rattle.afdx_send.proofs.FullLemmas.{vl_of, charge_of, charged_all, released_all}
use Rattle.afdx_send.proofs.KeptLemmas.{all_fit}
use Rattle.afdx_send.proofs.NextLemmas.{append_append, split_last}
use Rattle.afdx_port.proofs.TurnLemmas.{eqb-same, eqb-other}

-- the law of ports: what a port took are the turns of its entries
abbrev pub TakenAreTurns : Type 0
TakenAreTurns = (p : PortState Frame) (h : port.PortHistory Frame) → port.StandsFor facts p h
    → AreTurns h.byte_ns h.entries h.taken

-- the emissions are turns
pub emitted_are : (w : SenderState) (h : SenderHistory) → TakenAreTurns → (st : StandsFor w h)
    → AreTurns (byte_ns h.system) (entries_of st.released) h.emitted
emitted_are w h law st =
    by w.ready st.given st.has_given
    (law w.output (port_history h st.released st.given w.output.clock) st.output)
  where
    by : (o : Option (Left Frame)) (given : List (Turn Frame)) → HasGiven o h.emitted given
        → AreTurns (byte_ns h.system) (entries_of st.released) given
        → AreTurns (byte_ns h.system) (entries_of st.released) h.emitted
    by None given g are = subst
        (λ (z : List (Turn Frame)). AreTurns (byte_ns h.system) (entries_of st.released) z) g are
    by (Some left) given g are =
        (subst (λ (z : List (Turn Frame)). AreTurns (byte_ns h.system) (entries_of st.released) z)
        g.1 are).1

pub emitted_in_time : (w : SenderState) (h : SenderHistory) → TakenAreTurns → SenderIsInTime Frame
    → StandsFor w h → All (λ s. s.end
    ≤ s.entry.time + one_of_each (byte_ns h.system) (flows_of h.system h.links)) h.emitted
emitted_in_time w h law in_time st =
    in_time (byte_ns h.system) Low (flows_of h.system h.links) vl_of charge_of
    (entries_of st.released) h.emitted st.are_sent.is_sender st.output.in_order
    (charged_all h.system h.links h.taken st.are_sent (all_fit w h st) st.released st.are_releases)
    (released_all h.system h.links h.taken st.are_sent (all_fit w h st) st.released st.are_releases)
    (emitted_are w h law st)

-- turns of one class go in the order of the entries
pub record GoInOrder (n : ℕ) (turns : List (Turn Frame)) : Type 0 where
  pub yes : (p : ℕ) → p < n → has_turn turns p ≡ true
  pub no : (p : ℕ) → n ≤ p → has_turn turns p ≡ false

pub next_place : (b n : ℕ) (es : List (Entry Frame)) (earlier : List (Turn Frame)) (s : Turn Frame)
    → AreOurs es → GoInOrder n earlier → IsNext b es earlier s → s.place ≡ n
next_place b n es earlier s ours g k =
    let within = slice_get_within es s.place s.entry k.own.stands in
    elim (cases_lt s.place n) [
      | inl lt ↦ absurd (let y = g.yes s.place lt in let w = k.own.without in let e : true ≡ false = sym y ∙ w in cc e)
      | inr ge ↦ (let e = slice_get-within es n (omega arith) in
          let le = k.in_order n e.0 (record { stands = e.1; without = g.no n (omega arith) })
          ((ours n e.0 e.1).class ∙ sym (ours s.place s.entry k.own.stands).class) in
          omega arith)
    ]

or_true : (a b : Bool) → b ≡ true → (a || b) ≡ true
or_true true b h = refl
or_true false b h = h

pub order_after : (n : ℕ) (earlier : List (Turn Frame)) (s : Turn Frame) → s.place ≡ n
    → GoInOrder n earlier → GoInOrder (n + 1) (s ∷ earlier)
order_after n earlier s at g = record {
  yes = λ p lt. elim (cases_eq p n) [
    | inl e ↦ rw (eqb-same s.place p (at ∙ sym e)) refl
    | inr ne ↦ or_true (s.place == p) (has_turn earlier p) (g.yes p (omega arith))
  ];
  no = λ p le. rw (eqb-other s.place p (λ e. omega arith)) (g.no p (omega arith));
}

pub go_in_order : (b : ℕ) (es : List (Entry Frame)) (turns : List (Turn Frame)) → AreOurs es
    → AreTurns b es turns → GoInOrder (length turns) turns
go_in_order b es [] ours are = record { yes = λ p lt. absurd (omega arith); no = λ p le. refl }
go_in_order b es (s ∷ earlier) ours are =
    let g = go_in_order b es earlier ours are.1 in
    let a = order_after (length earlier) earlier s (next_place b (length earlier) es earlier s ours g are.0) g in
    let n : length earlier + 1 ≡ length (s ∷ earlier) = omega arith in
    subst (λ (z : ℕ). GoInOrder z (s ∷ earlier)) n a

-- each turn is that of the release at its place
unfoldable pub Pairs : List (Turn Frame) → List LinkRelease → Type 0
Pairs [] [] = Unit {0}
Pairs [] (x ∷ xs) = ⊥
Pairs (s ∷ ss) [] = ⊥
Pairs (s ∷ ss) (x ∷ xs) = (s.entry ≡ entry_for x (length (own x.place xs))) × Pairs ss xs

pub pairs_length : (ss : List (Turn Frame)) (xs : List LinkRelease) → Pairs ss xs → length ss ≡ length xs
unfolding Pairs
pairs_length [] [] p = refl
pairs_length [] (x ∷ xs) p = absurd p
pairs_length (s ∷ ss) [] p = absurd p
pairs_length (s ∷ ss) (x ∷ xs) p = ap (λ n. suc n) (pairs_length ss xs p.1)

pub entries_length : (xs : List LinkRelease) → length (entries_of xs) ≡ length xs
entries_length [] = refl
entries_length (x ∷ xs) = length_push (entries_of xs) (entry_for x (length (own x.place xs)))
    ∙ (let e = entries_length xs in omega arith)
  where
    length_push : {Y : Type 0} (ys : List Y) (y : Y) → length (ys ++ y ∷ []) ≡ length ys + 1
    length_push [] y = refl
    length_push (z ∷ zs) y = (let r = length_push zs y in omega arith)

pub record Paired (all : List LinkRelease) (turns : List (Turn Frame)) : Type 0 where
  pub first : List LinkRelease
  pub later : List LinkRelease
  pub is : all ≡ later ++ first
  pub pairs : Pairs turns first

pub paired : (links : List LinkRow) (taken : List (List Submission)) (b : ℕ)
    (all : List LinkRelease) (turns : List (Turn Frame)) → AreAllReleases links taken all
    → AreTurns b (entries_of all) turns → Paired all turns
unfolding Pairs
paired links taken b all [] h are = record { first = []; later = all; is = sym (append-nil all); pairs = tt }
paired links taken b all (s ∷ earlier) h are =
    let r = paired links taken b all earlier h are.1 in
    let n : length earlier ≡ length r.first = pairs_length earlier r.first r.pairs in
    let place : s.place ≡ length earlier =
    next_place b (length earlier) (entries_of all) earlier s (are_ours all)
    (go_in_order b (entries_of all) earlier (are_ours all) are.1) are.0 in
    let within = slice_get_within (entries_of all) s.place s.entry are.0.own.stands in
    let count = entries_length all in
    elim (split_last r.later) [
      | inl none ↦ absurd (let e : all ≡ r.first = r.is ∙ ap (λ z. z ++ r.first) none in
          let f : length all ≡ length r.first = ap length e in omega arith)
      | inr some ↦ (let x = some.1 in
          let whole : all ≡ some.0 ++ (x ∷ r.first) = r.is ∙ ap (λ z. z ++ r.first) some.2
          ∙ append_append some.0 (x ∷ []) r.first in
          let m = more_of links taken (x ∷ r.first) some.0 0 (λ i l q g k. omega arith)
          (subst (λ (z : List LinkRelease). AreAllReleases links taken z) whole h) in
          let d : Entry Frame = entry_for x (length (own x.place r.first)) in
          let es : entries_of all ≡ (entries_of r.first ++ d ∷ []) ++ m.more = ap entries_of whole ∙ m.is in
          let at : length (entries_of r.first) ≡ s.place = (let k = entries_length r.first in omega arith) in
          let got : slice_get (entries_of all) s.place ≡ Some d = ap (λ z. slice_get z s.place) es
          ∙ subst (λ (z : ℕ). slice_get ((entries_of r.first ++ d ∷ []) ++ m.more) z ≡ Some d)
          at (get_more (entries_of r.first ++ d ∷ []) m.more (length (entries_of r.first)) d
          (slice_get-push_last (entries_of r.first) d)) in
          let same : Some s.entry ≡ Some d = sym are.0.own.stands ∙ got in
          let entry : s.entry ≡ d = cc same in
          record { first = x ∷ r.first; later = some.0; is = whole; pairs = (entry, r.pairs) })
    ]
