-- Where nothing is found of a switch, nor of its systems as senders, each message comes once.
use Rattle.std.proofs.Common.{◌≡◌, ℕ, ◌<◌, List, [], ◌∷◌, length, map, refl, sym, ap, ◌∙◌, subst, arith}
use Rattle.std.proofs.lemmas.List.Elements.{recursion_from_All}
use Rattle.std.specs.List.{AllByRecursion}
use Rattle.std.specs.Prelude.{◌*◌, None, Some, filter, reverse, slice_get, true}
use Rattle.afdx_config.proofs.AmongOthersLemmas.{among_others}
use Rattle.afdx_config.specs.Lawful.{IsLawfulSwitch, IsLinkUpTo, jitter_from_any}
use Rattle.afdx_config.specs.Rows.{LinkRow, Rows, SystemRow, is_to}
use Rattle.afdx_conform.specs.Headline.{AreTheirFrames}
use Rattle.afdx_conform.specs.Leeway.{Leeway}
use Rattle.afdx_conform.specs.LimitRanges.{most_bytes}
use Rattle.afdx_conform.specs.Streams.{Gone, Terms}
use Rattle.afdx_frame.proofs.ListLemmas.{AllByRecursion-slice_get}
use Rattle.afdx_frame.specs.declared.link.Side.{Side}
use Rattle.afdx_input_runs.specs.Joining.{Frame}
use Rattle.afdx_law_recorded.proofs.AllOnceLemmas.{all_come_once}
use Rattle.afdx_law_recorded.specs.OneSide.{IsShown}
use Rattle.afdx_law_recorded.specs.Receivers.{messages_sent}
use Rattle.afdx_law_recorded.specs.Switches.{AllAreJudged, NothingIsTold, left_of, stream_at}
use Rattle.afdx_lawful.specs.Accepted.{arrivals_of as sent_of}
use Rattle.afdx_lawful.specs.Sources.{Came}
use Rattle.afdx_police.specs.Arrival.{Arrival, own}
use Rattle.afdx_police.specs.Spacing.{AreUpTo}
use Rattle.afdx_receive.specs.Delivery.{delivered}
use Rattle.afdx_config.specs.Reading.{has_port}
use Rattle.afdx_senders.proofs.OwnLemmas.{judged_terms}
use Rattle.afdx_senders.proofs.ShortLemmas.{each_found, longer_passed, nothing_told}
use Rattle.afdx_senders.specs.AllLines.{all_lines}
use Rattle.afdx_senders.specs.Lines.{FoundBy, Line, OfNone, OfSource}
use Rattle.afdx_senders.specs.SenderLaws.{AreSameSent, IsFound}
use Rattle.afdx_senders.specs.Setups.{Setup, own_frames}
use Rattle.afdx_senders.specs.Telling.{AreToldBefore}
use Rattle.afdx_senders.specs.Terms.{terms_at}
use Rattle.afdx_senders.specs.declared.stray.Stray.{Stray}
use Rattle.afdx_senders.specs.declared.stray.Stray.TheVariants.{Damaged, NotItsLink, UnknownLink}
use Rattle.afdx_command_conform.proofs.QuietRunLemmas.{none_unseen, nothing_found}
use Rattle.afdx_command_conform.proofs.TellingLemmas.{findings-append}
use Rattle.afdx_command_conform.specs.Choices.{Choices, left_out_of, until_or}
use Rattle.afdx_command_conform.specs.Frames.{arrivals_of, frames_of}
use Rattle.afdx_command_conform.specs.Sight.{Sight, of_tables}
use Rattle.afdx_command_conform.specs.Tapped.{Taps}
use Rattle.afdx_command_conform.specs.Telling.{findings_in}
use Rattle.afdx_command_conform.specs.Lines.{Due}
use Rattle.afdx_command_senders.proofs.AllCountedLemmas.{came-up, none_out_judged, none_out_sent}
use Rattle.afdx_command_senders.proofs.AllJudgedLemmas.{none_alone_judged}
use Rattle.afdx_command_senders.specs.Asked.{Asked, came_in}
use Rattle.afdx_command_senders.specs.Outlook.{Outlook}
use Rattle.afdx_command_senders.specs.SenderLines.{whole_setup}
use Rattle.afdx_command_senders.specs.SenderTexts.{lines_by, lines_of, stray_line, told_lines}
use Rattle.afdx_command_senders.specs.Together.{BothShowOnce, EachIsOnce, IsExactTest, IsJudgedByAll, SendersFindNothing, SwitchFindsNothing, TwoRunsShowOnce, came_until, left_until, no_longer}

-- ---- where no line is a finding, none was told

stray-finding : (n : ℕ) (side : Side) (port : ℕ) (stray : Stray) → findings_in (stray_line n side port stray ∷ []) ≡ 1
unfolding findings_in
stray-finding n side port (Damaged fault) = refl
stray-finding n side port UnknownLink = refl
stray-finding n side port NotItsLink = refl

line-finding : (x : Line) → IsFound x.found → 0 < findings_in (lines_of x)
unfolding findings_in
line-finding x says = by x.found says
  where
    by : (found : FoundBy) → IsFound found → 0 < findings_in (lines_by x.line x.side x.port found)
    by (OfSource []) none = absurd none
    by (OfSource (f ∷ more)) some = omega arith
    by (OfNone stray) some = let one = stray-finding x.line x.side x.port stray in omega (arith, one)

none-told : (told : List Line) → AllByRecursion (λ x. IsFound x.found) told → findings_in (told_lines told) ≡ 0
    → told ≡ []
unfolding told_lines
none-told [] says none = refl
none-told (x ∷ past) says none =
    let sum = findings-append (told_lines past) (lines_of x) in
    let some = line-finding x says.0 in
    absurd (omega (arith, none, sum, some))

-- ---- both together

module _ (o : Outlook) (a : Asked) (taps : Taps) (c : Choices) (z : Setup) (sent frames : List Frame)
    (told : List Line) (dues : List Due) (test : IsExactTest o a) (sees : c.sight ≡ of_tables o.tables taps)
    (leeway : c.by ≡ a.run.by)
    (same : came_in a sent ≡ came_until c.until frames) (senders : SendersFindNothing o a z sent told)
    (switch : SwitchFindsNothing o.tables c frames dues) where
  abbrev whole : Setup
  whole = whole_setup (z, a) sent

  abbrev end : ℕ
  end = until_or c.until frames

  abbrev came : List Arrival
  came = came_until c.until frames

  abbrev left : List Arrival
  left = left_until c.until frames

  -- by what a stream is judged, by what is seen of the switch
  abbrev terms_of : Sight → LinkRow → (port : ℕ) → Terms
  terms_of i l port = record {
    rule = i.rule l;
    latency_ns = i.latency_ns l port;
    byte_ns = i.byte_ns l port;
    by = c.by;
    until = end;
  }

  lawful : IsLawfulSwitch o.tables
  lawful = among_others o.tables test.lawful

  all : AllAreJudged whole
  all = none_alone_judged o a z (until_or a.run.until sent) test senders.setting senders.alone

  none-out : left_out_of o.tables c frames ≡ 0
  none-out = let none = switch.left_out in omega (arith, none)

  judged : IsJudgedByAll o.tables c frames
  judged = none_out_judged o.tables c frames (ap (λ (by : Leeway). by.start) leeway ∙ test.exact.start) none-out

  no-line : all_lines whole came ≡ []
  no-line =
      let none = none-told told (recursion_from_All (λ x. IsFound x.found) told
      (each_found whole None (came_in a sent) told senders.are_all)) senders.none in
      subst (λ (xs : List Arrival). all_lines whole xs ≡ []) same
      (nothing_told whole (came_in a sent)
      (subst (λ (l : List Line). AreToldBefore whole None (came_in a sent) l) none senders.are_all))

  shorter : AreSameSent whole came (no_longer came)
  shorter = longer_passed whole most_bytes came (omega arith) no-line

  by-time : AreUpTo whole.asked.until (map (λ x. x.time) (no_longer came))
  by-time = subst (λ (xs : List Arrival). AreUpTo whole.asked.until (map (λ x. x.time) (no_longer xs))) same
      (came-up a sent senders.by_time)

  -- ---- of one link, at one system

  module _ (place system : ℕ) (l : LinkRow) (s : SystemRow) (at : slice_get o.tables.links place ≡ Some l)
      (there : slice_get o.tables.systems system ≡ Some s) (goes : is_to system l ≡ true) where
    shown : (side : Side) → IsShown (stream_at z.tables z.asked.by end l s.port) (own l.vl side (no_longer came))
        (left_of l.vl side s.port left)
    shown side =
        let quiet = nothing_found (o.tables, c) frames dues lawful switch.are_all switch.none switch.closed side place
        s.port l (none_unseen o.tables c.sight side place system l s lawful switch.unseen at there goes) in
        let seen : IsShown (terms_of c.sight l s.port) (arrivals_of o.tables c l.vl side frames)
        (frames_of o.tables c l.vl side s.port frames) =
        record { nothing = quiet.nothing; closed = quiet.closed } in
        let here : IsShown (stream_at o.tables c.by end l s.port) (arrivals_of o.tables c l.vl side frames)
        (frames_of o.tables c l.vl side s.port frames) =
        subst (λ (i : Sight). IsShown (terms_of i l s.port) (arrivals_of o.tables c l.vl side frames)
        (frames_of o.tables c l.vl side s.port frames)) sees seen in
        subst (λ (t : Rows). IsShown (stream_at t z.asked.by end l s.port) (own l.vl side (no_longer came))
        (left_of l.vl side s.port left)) (sym senders.setting.tables)
        (subst (λ (by : Leeway). IsShown (stream_at o.tables by end l s.port) (own l.vl side (no_longer came))
        (left_of l.vl side s.port left)) (leeway ∙ sym senders.setting.leeway)
        (subst (λ (xs : List Arrival). IsShown (stream_at o.tables c.by end l s.port) xs
        (left_of l.vl side s.port left)) (judged.came l.vl side)
        (subst (λ (ys : List Gone). IsShown (stream_at o.tables c.by end l s.port)
        (arrivals_of o.tables c l.vl side frames) ys) (judged.left l.vl side s.port) here)))

    in-tables : slice_get z.tables.links place ≡ Some l
    in-tables = ap (λ (t : Rows). slice_get t.links place) senders.setting.tables ∙ at

    system-there : slice_get z.tables.systems system ≡ Some s
    system-there = ap (λ (t : Rows). slice_get t.systems system) senders.setting.tables ∙ there

    sends : l.from < z.tables.own
    sends =
        let row = AllByRecursion-slice_get (IsLinkUpTo jitter_from_any (length o.tables.systems)) o.tables.links place l
        lawful.links.each at in
        subst (λ (t : Rows). l.from < t.own) (sym senders.setting.tables)
        (subst (λ (n : ℕ). l.from < n) (sym test.lawful.own) row.from)

    same-sent : own_frames whole place (no_longer came) ≡ own_frames whole place came
    same-sent = shorter.own place (terms_at z.tables z.recorded whole.asked place l)
        (judged_terms whole place l (all.judged place l in-tables sends) in-tables)

  nothing : NothingIsTold whole end (no_longer came) left
  nothing = record {
    by_time = by-time;
    no_line = shorter.no_line;
    streams = λ side place system l s at there goes sends.
        shown place system l s (ap (λ (t : Rows). slice_get t.links place) (sym senders.setting.tables) ∙ at)
        (ap (λ (t : Rows). slice_get t.systems system) (sym senders.setting.tables) ∙ there) goes side;
  }

  pub came-once : EachIsOnce o whole c.until frames
  came-once place system l s heard at there goes are =
      let once = all_come_once whole end (no_longer came) left place system l s heard all nothing
      (in-tables place system l s at there goes) (system-there place system l s at there goes) goes
      (sends place system l s at there goes) are in
      let equal = same-sent place system l s at there goes in
      record {
        frames = λ side. subst
            (λ (xs : List Came). AreTheirFrames (stream_at z.tables z.asked.by end l s.port)
            (sent_of (terms_at z.tables z.recorded whole.asked place l) side xs) (left_of l.vl side s.port left))
            equal (once.frames side);
        messages = subst
            (λ (xs : List Came).
            reverse (delivered (1000 * l.skew_us) (has_port z.tables.ports system l.vl) heard)
            ≡ filter (λ m. has_port z.tables.ports system l.vl m.udp) (messages_sent xs))
            equal once.messages;
      }

pub two_runs_show_once : TwoRunsShowOnce
two_runs_show_once o a taps c z sent frames told dues test sees leeway same senders switch =
    came-once o a taps c z sent frames told dues test sees leeway same senders switch

pub both_show_once : BothShowOnce
both_show_once o a z frames told dues test sees senders switch =
    came-once o a a.taps a.run z frames frames told dues test sees refl
    (none_out_sent o.tables a frames test.exact.start (let none = switch.left_out in omega (arith, none))) senders
    switch
