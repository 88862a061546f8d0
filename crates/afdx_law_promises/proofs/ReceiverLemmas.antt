-- What a receiver makes of what comes from both sides.
use Rattle.std.proofs.Common.{◌≡◌, ℕ, ◌*◌, ◌==◌, Bool, true, false, not, eqb, List, [], ◌∷◌}
use Rattle.std.proofs.Common.{length, map, filter, refl, sym, ap, ◌∙◌, subst, inl, inr}
use Rattle.std.specs.Prelude.{Option, Some, None, Result, Ok, Err, is_none, nat_lt, if◌then◌else◌, slice_get, ◌⊎◌}
use Rattle.std.specs.List.{AllByRecursion}
use Rattle.std.specs.Option.{option_map_or}
use Rattle.std.proofs.lemmas.Bool.{eqb-true, eq-eqb, le-ltb}
use Rattle.afdx_frame.specs.Layout.{link_named_by}
use Rattle.afdx_frame.specs.Parts.{FrameParts, frame_of, frame_with, type_of_frame, body_of_frame, number_of_frame}
use Rattle.afdx_frame.specs.Sealing.{is_sealed}
use Rattle.afdx_frame.specs.declared.fault.MacFault.{MacFault}
use Rattle.afdx_frame.specs.declared.fault.MacFault.TheVariants.{TooShort, TooLong, BadFcs}
use Rattle.afdx_frame.specs.declared.link.Side.{Side}
use Rattle.afdx_frame.specs.declared.link.VlId.{VlId}
use Rattle.afdx_frame.specs.Sides.{is_side}
use Rattle.afdx_config.specs.Lawful.{IsLawfulSwitch}
use Rattle.afdx_config.specs.Reading.{has_port}
use Rattle.afdx_config.specs.Rows.{LinkRow, Rows, is_to}
use Rattle.afdx_police.specs.Arrival.{Arrival, names}
use Rattle.afdx_police.specs.Rule.{Rule}
use Rattle.afdx_police.specs.Shape.{IsSound}
use Rattle.afdx_police.specs.Verdicts.{accepted_arrivals, reason_after}
use Rattle.afdx_police.specs.declared.shape.Reason.{Reason}
use Rattle.afdx_police.proofs.FrameLemmas.{IsFrameOn}
use Rattle.afdx_police.proofs.ShapeLemmas.{faultless-is-sound}
use Rattle.afdx_police.proofs.VerdictLemmas.{verdict_decides}
use Rattle.afdx_port.specs.Schedule.{Turn}
use Rattle.afdx_receive.specs.Answers.{answer_after, answer_to, subscription}
use Rattle.afdx_receive.specs.Arrivals.{Arrived, incoming, with_frame, frames_of}
use Rattle.afdx_receive.specs.Delivery.{with_answer, delivered}
use Rattle.afdx_receive.specs.Integrity.{Incoming}
use Rattle.afdx_receive.proofs.ReceptionLemmas.{frames_with, frames_other, frames_damaged, answer_own}
use Rattle.afdx_receive.proofs.TableLemmas.{received}
use Rattle.afdx_switch.specs.Admitted.{Passing, passing, passing_in, frames_among}
use Rattle.afdx_switch.specs.HeldFrames.{HeldFrame}
use Rattle.afdx_switch.specs.Laws.{is_of}
use Rattle.afdx_switch.specs.Tables.{rule_of}
use Rattle.afdx_switch.proofs.ListLemmas.{bool_cases}
use Rattle.afdx_law_promises.specs.Receptions.{brought, is_from, with_answer_on, answers_on, answers_by_rules, messages_in}
use Rattle.afdx_law_promises.proofs.PortLemmas.{entries_back}

-- ---- answers

received-link : (t : Rows) (system place : ℕ) (l : LinkRow)
    → IsLawfulSwitch t → slice_get t.links place ≡ Some l → is_to system l ≡ true
    → subscription t system l.vl ≡ Some l
received-link t system place l lawful at goes = received system t.links place l lawful.links.identifiers at goes

pub answers-own : (t : Rows) (system place : ℕ) (l : LinkRow)
    → IsLawfulSwitch t → slice_get t.links place ≡ Some l → is_to system l ≡ true
    → (came : List Arrived) →
    answers_on t system l.vl came
    ≡ answers_by_rules (1000 * l.skew_us) (has_port t.ports system l.vl) (frames_of l.vl came)
unfolding answers_on answers_by_rules frames_of
answers-own t system place l lawful at goes [] = refl
answers-own t system place l lawful at goes (x ∷ past) =
    by (frame_of x.bytes) refl (answers-own t system place l lawful at goes past)
  where
    own : (frame : FrameParts) → frame_of x.bytes ≡ Ok frame → frame.link.0 ≡ l.vl →
        answer_to t system past x ≡ answer_after (1000 * l.skew_us) (has_port t.ports system l.vl)
        (frames_of l.vl past) (incoming x frame)
    own frame is named =
        answer_own t system past x frame l is
        (ap (subscription t system) named ∙ received-link t system place l lawful at goes)
        ∙ ap (λ vl. answer_after (1000 * l.skew_us) (has_port t.ports system vl) (frames_of vl past)
        (incoming x frame)) named

    joined : (b : Bool) (frame : FrameParts) → eqb frame.link.0 l.vl ≡ b
        → frame_of x.bytes ≡ Ok frame → answers_on t system l.vl past
        ≡ answers_by_rules (1000 * l.skew_us) (has_port t.ports system l.vl) (frames_of l.vl past) →
        (if b then answer_to t system past x ∷ answers_on t system l.vl past else answers_on t system l.vl past)
        ≡ answers_by_rules (1000 * l.skew_us) (has_port t.ports system l.vl)
        (if b then incoming x frame ∷ frames_of l.vl past else frames_of l.vl past)
    joined true frame same is rest =
        ap (λ a. a ∷ answers_on t system l.vl past) (own frame is (eqb-true frame.link.0 l.vl same))
        ∙ ap (λ answers. answer_after (1000 * l.skew_us) (has_port t.ports system l.vl)
        (frames_of l.vl past) (incoming x frame) ∷ answers) rest
    joined false frame other is rest = rest

    by : (r : Result FrameParts MacFault) → frame_of x.bytes ≡ r → answers_on t system l.vl past
        ≡ answers_by_rules (1000 * l.skew_us) (has_port t.ports system l.vl) (frames_of l.vl past) →
        with_answer_on l.vl (answer_to t system past x) r (answers_on t system l.vl past)
        ≡ answers_by_rules (1000 * l.skew_us) (has_port t.ports system l.vl)
        (with_frame l.vl x r (frames_of l.vl past))
    by (Err fault) is rest = rest
    by (Ok frame) is rest = joined (eqb frame.link.0 l.vl) frame refl is rest

pub messages-delivered : (skew : ℕ) (is_open : ℕ → Bool) (frames : List Incoming)
    → messages_in (answers_by_rules skew is_open frames) ≡ delivered skew is_open frames
unfolding answers_by_rules delivered
messages-delivered skew is_open [] = refl
messages-delivered skew is_open (frame ∷ before) =
    ap (with_answer (answer_after skew is_open before frame)) (messages-delivered skew is_open before)

-- ---- the frames of a link by one side

side-kept : (vl : ℕ) (side : Side) (x : Arrived) (past : List Arrived)
    (r : Result FrameParts MacFault) (b : Bool) → is_from side x ≡ b →
    filter (λ f. is_side f.side side) (with_frame vl x r (frames_of vl past)) ≡
    (if b then with_frame vl x r (filter (λ f. is_side f.side side) (frames_of vl past)) else filter
    (λ f. is_side f.side side) (frames_of vl past))
side-kept vl side x past (Err fault) true from = refl
side-kept vl side x past (Err fault) false from = refl
side-kept vl side x past (Ok frame) b from = by (eqb frame.link.0 vl) b from
  where
    by : (c d : Bool) → is_from side x ≡ d
        → filter (λ f. is_side f.side side)
        (if c then incoming x frame ∷ frames_of vl past else frames_of vl past)
        ≡ (if d then (if c then incoming x frame
        ∷ filter (λ f. is_side f.side side) (frames_of vl past) else filter
        (λ f. is_side f.side side) (frames_of vl past)) else filter (λ f. is_side f.side side)
        (frames_of vl past))
    by true true own = ap (λ e. if e then incoming x frame
        ∷ filter (λ f. is_side f.side side) (frames_of vl past) else filter
        (λ f. is_side f.side side) (frames_of vl past)) own
    by true false own = ap (λ e. if e then incoming x frame
        ∷ filter (λ f. is_side f.side side) (frames_of vl past) else filter
        (λ f. is_side f.side side) (frames_of vl past)) own
    by false true own = refl
    by false false own = refl

-- they are those of what came by that side
pub frames-by-side : (vl : ℕ) (side : Side) (came : List Arrived)
    → filter (λ f. is_side f.side side) (frames_of vl came) ≡ frames_of vl (filter (is_from side) came)
unfolding frames_of
frames-by-side vl side [] = refl
frames-by-side vl side (x ∷ past) = by (is_from side x) refl (frames-by-side vl side past)
  where
    by : (b : Bool) → is_from side x ≡ b → filter (λ f. is_side f.side side) (frames_of vl past)
        ≡ frames_of vl (filter (is_from side) past) →
        filter (λ f. is_side f.side side) (with_frame vl x (frame_of x.bytes) (frames_of vl past))
        ≡ frames_of vl (if b then x ∷ filter (is_from side) past else filter (is_from side) past)
    by true from rest = side-kept vl side x past (frame_of x.bytes) true from
        ∙ ap (with_frame vl x (frame_of x.bytes)) rest
    by false other rest = side-kept vl side x past (frame_of x.bytes) false other ∙ rest

-- a slot of the link brings one more
pub own-slot : (vl : ℕ) (side : Side) (s : Turn HeldFrame) (ss : List (Turn HeldFrame))
    (is : IsFrameOn vl s.entry.item.bytes) →
    frames_of vl (map (brought side) (s ∷ ss)) ≡ incoming (brought side s) is.parts
    ∷ frames_of vl (map (brought side) ss)
own-slot vl side s ss is =
    frames_with (brought side s) (map (brought side) ss) is.parts vl is.is_frame
    ∙ ap (λ b. if b then incoming (brought side s) is.parts ∷ frames_of vl (map (brought side) ss)
    else frames_of vl (map (brought side) ss)) (eq-eqb is.parts.link.0 vl is.named)

link_in : Option VlId → Result FrameParts MacFault → Option VlId
link_in o (Ok frame) = Some frame.link
link_in o (Err fault) = o

frame-parts : (bytes : List ℕ) (frame : FrameParts) → frame_of bytes ≡ Ok frame → link_named_by bytes ≡ Some frame.link
unfolding frame_of link_in
frame-parts bytes frame is =
    by (nat_lt (length bytes) 64) (nat_lt 1518 (length bytes)) (not (is_sealed bytes))
    (link_named_by bytes) is
  where
    by : (a b c : Bool) (o : Option VlId)
        → (if a then Err TooShort else
        (if b then Err TooLong else (if c then Err BadFcs else frame_with bytes o))) ≡ Ok frame
        → o ≡ Some frame.link
    by true b c o h = absurd (cc h)
    by false true c o h = absurd (cc h)
    by false false true o h = absurd (cc h)
    by false false false None h = absurd (cc h)
    by false false false (Some v) h = ap (λ (r : Result FrameParts MacFault). link_in (Some v) r) h

pub names-frame : (vl : ℕ) (bytes : List ℕ) (frame : FrameParts) → frame_of bytes ≡ Ok frame
    → names vl bytes ≡ (frame.link.0 == vl)
unfolding names
names-frame vl bytes frame is =
    ap (λ (o : Option VlId). option_map_or (λ named. named.0 == vl) o false) (frame-parts bytes frame is)

-- and one of another link none
pub other-slot : (vl : ℕ) (side : Side) (s : Turn HeldFrame) (ss : List (Turn HeldFrame))
    → is_of vl s.entry ≡ false → frames_of vl (map (brought side) (s ∷ ss))
    ≡ frames_of vl (map (brought side) ss)
other-slot vl side s ss other = by (frame_of s.entry.item.bytes) refl
  where
    by : (r : Result FrameParts MacFault) → frame_of s.entry.item.bytes ≡ r
        → frames_of vl (map (brought side) (s ∷ ss)) ≡ frames_of vl (map (brought side) ss)
    by (Err fault) is = frames_damaged (brought side s) (map (brought side) ss) fault vl is
    by (Ok frame) is = frames_other (brought side s) (map (brought side) ss) frame vl is
        (sym (names-frame vl s.entry.item.bytes frame is) ∙ other)

-- ---- accepted arrivals are frames

sound-frame : (rule : Rule) (port : ℕ) (bytes : List ℕ) → IsSound rule port bytes → IsFrameOn rule.vl bytes
unfolding names frame_of
sound-frame rule port bytes sound = by (link_named_by bytes) refl sound.named
  where
    by : (o : Option VlId) → link_named_by bytes ≡ o
        → option_map_or (λ named. named.0 == rule.vl) o false ≡ true → IsFrameOn rule.vl bytes
    by None none h = absurd (cc h)
    by (Some v) some h =
        let short : nat_lt (length bytes) 64 ≡ false = le-ltb (length bytes) 64 sound.shortest in
        let long : nat_lt 1518 (length bytes) ≡ false = le-ltb 1518 (length bytes) sound.longest in
        let sealed : is_sealed bytes ≡ true = sound.sealed in
        record {
          parts = record {
            link = v;
            kind = type_of_frame bytes;
            body = body_of_frame bytes;
            number = number_of_frame bytes;
          };
          is_frame = rw (short, long, sealed, some) refl;
          named = eqb-true v.0 rule.vl h;
        }

pub vl-is : (t : Rows) (l : LinkRow) → (rule_of t l).vl ≡ l.vl
unfolding rule_of
vl-is t l = refl

pub none-is : (o : Option Reason) → is_none o ≡ true → o ≡ None
none-is None h = refl
none-is (Some r) h = absurd (cc h)

pub accepted-frames : (rule : Rule) (xs : List Arrival)
    → AllByRecursion (λ x. IsFrameOn rule.vl x.bytes) (accepted_arrivals rule xs)
unfolding accepted_arrivals
accepted-frames rule [] = tt
accepted-frames rule (x ∷ past) = by (is_none (reason_after rule past x)) refl (accepted-frames rule past)
  where
    by : (b : Bool) → is_none (reason_after rule past x) ≡ b
        → AllByRecursion (λ y. IsFrameOn rule.vl y.bytes) (accepted_arrivals rule past)
        → AllByRecursion (λ y. IsFrameOn rule.vl y.bytes)
        (if b then x ∷ accepted_arrivals rule past else accepted_arrivals rule past)
    by true none rest =
        let fault = ((verdict_decides rule past x).exactly.0 (none-is (reason_after rule past x) none)).0 in
        (sound-frame rule x.port x.bytes ((faultless-is-sound rule x.port x.bytes).0 fault), rest)
    by false some rest = rest

-- ---- what comes by a side are the accepted ones

pub bytes-of-slots : (vl : ℕ) (side : Side) (ss : List (Turn HeldFrame)) (xs : List Arrival)
    → AllByRecursion (λ x. IsFrameOn vl x.bytes) xs → frames_among vl (entries_back ss) ≡ map passing xs →
    map (λ (f : Incoming). f.bytes) (frames_of vl (map (brought side) ss)) ≡ map (λ (x : Arrival). x.bytes) xs
unfolding frames_of
bytes-of-slots vl side [] [] all same = refl
bytes-of-slots vl side [] (x ∷ xs) all same = absurd (cc same)
bytes-of-slots vl side (s ∷ ss) xs all same = by (bool_cases (is_of vl s.entry)) xs all same (bytes-of-slots vl side ss)
  where
    by : (is_of vl s.entry ≡ true) ⊎ (is_of vl s.entry ≡ false) → (xs : List Arrival)
        → AllByRecursion (λ x. IsFrameOn vl x.bytes) xs → frames_among vl (entries_back (s ∷ ss))
        ≡ map passing xs →
        ((xs : List Arrival) → AllByRecursion (λ x. IsFrameOn vl x.bytes) xs
        → frames_among vl (entries_back ss) ≡ map passing xs
        → map (λ (f : Incoming). f.bytes) (frames_of vl (map (brought side) ss))
        ≡ map (λ (x : Arrival). x.bytes) xs) →
        map (λ (f : Incoming). f.bytes) (frames_of vl (map (brought side) (s ∷ ss))) ≡ map (λ (x : Arrival). x.bytes) xs
    by (inr other) ys each equal rest =
        ap (map (λ (f : Incoming). f.bytes)) (other-slot vl side s ss other)
        ∙ rest ys each (rw other at equal)
    by (inl own) [] each equal rest = absurd (let h = rw own at equal in cc h)
    by (inl own) (y ∷ ys) each equal rest =
        let both : passing_in s.entry ∷ frames_among vl (entries_back ss)
        ≡ passing y ∷ map passing ys = rw own at equal in
        let head : passing_in s.entry ≡ passing y = cc both in
        let tail : frames_among vl (entries_back ss) ≡ map passing ys = cc both in
        let bytes : s.entry.item.bytes ≡ y.bytes = ap (λ (p : Passing). p.bytes) head in
        let is : IsFrameOn vl s.entry.item.bytes = subst (IsFrameOn vl) (sym bytes) each.0 in
        ap (map (λ (f : Incoming). f.bytes)) (own-slot vl side s ss is)
        ∙ ap (λ b. b ∷ map (λ (f : Incoming). f.bytes) (frames_of vl (map (brought side) ss))) bytes
        ∙ ap (λ zs. y.bytes ∷ zs) (rest ys each.1 tail)
