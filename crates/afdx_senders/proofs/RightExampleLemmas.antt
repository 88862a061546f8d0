-- The example of a right system of a switch meets what is asked.
use Rattle.std.proofs.Common.{◌≡◌, ℕ, zero, suc, ◌+◌, List, [], ◌∷◌, Option, Some, None, refl, sym, ap, ap₂, ◌∙◌, subst, arith}
use Rattle.std.specs.List.{All}
use Rattle.std.proofs.lemmas.List.Elements.{All-from_recursion}
use Rattle.afdx_config.specs.Reading.{link_of, listener_at, system_at_port}
use Rattle.afdx_config.specs.Switches.{first_of}
use Rattle.afdx_law_bounds.specs.Tables.{port_of, rule_of}
use Rattle.afdx_lawful.specs.Judged.{Judged}
use Rattle.afdx_lawful.specs.Nearness.{hello}
use Rattle.afdx_lawful.specs.RecordedExample.{exact_source, link, seen_of_stream, sender, stream}
use Rattle.afdx_lawful.specs.Sources.{Came, Source, apart_by}
use Rattle.afdx_lawful.proofs.RecordedExampleLemmas.{lawful_met}
use Rattle.afdx_lawful.proofs.RecordedLemmas.{right-twice}
use Rattle.afdx_senders.specs.RightExample.{RightAreMet, right_came}
use Rattle.afdx_senders.specs.RightSenders.{AreAllRight, IsRightSource}
use Rattle.afdx_senders.specs.SenderCounts.{sent_by as counted_by, sent_up_to}
use Rattle.afdx_senders.specs.SenderRows.{both_until}
use Rattle.afdx_senders.specs.Setups.{own_frames, source_at, whose}
use Rattle.afdx_senders.specs.Sites.{is_sent_at, is_site, sent_by, source_of}
use Rattle.afdx_senders.specs.Strays.{stray_of}
use Rattle.afdx_senders.specs.Terms.{id_of}
use Rattle.afdx_senders.proofs.RightSenderLemmas.{right_no_line}

same-some : {X : Type 0} {x y : X} → Some x ≡ Some y → x ≡ y
same-some h = cc

-- ---- the one source, and its frames

the-source : (s : Source) → source_at (both_until 1200000) 0 ≡ Some s → exact_source ≡ s
unfolding source_at rule_of port_of id_of
the-source s h = same-some h

no-source : (n : ℕ) (s : Source) → source_at (both_until 1200000) (suc n) ≡ Some s → ⊥
unfolding source_at
no-source n s h = cc h

its-frames : own_frames (both_until 1200000) 0 right_came ≡ seen_of_stream
unfolding own_frames is_sent_at is_site sent_by source_of port_of link_of listener_at system_at_port first_of
its-frames = refl

is-right : IsRightSource exact_source seen_of_stream
is-right = record {
  in_range = lawful_met.range;
  both = λ paired.
      right-twice exact_source sender link (apart_by exact_source None) (hello ∷ hello ∷ []) stream seen_of_stream
      lawful_met.range lawful_met.of (λ bytes. omega arith) lawful_met.lawful lawful_met.recorded;
  alone = λ one side. absurd (cc one);
}

right : (place : ℕ) (s : Source) → source_at (both_until 1200000) place ≡ Some s →
    IsRightSource s (own_frames (both_until 1200000) place right_came)
right zero s h =
    subst (λ (t : Source). IsRightSource t (own_frames (both_until 1200000) 0 right_came)) (the-source s h)
    (subst (λ (xs : List Came). IsRightSource exact_source xs) (sym its-frames) is-right)
right (suc n) s h = absurd (no-source n s h)

-- ---- no line

none-stray : All (λ x. stray_of (whose (both_until 1200000) x) x.bytes ≡ None) right_came
unfolding is_sent_at is_site sent_by source_of port_of link_of listener_at system_at_port first_of
none-stray =
    All-from_recursion (λ x. stray_of (whose (both_until 1200000) x) x.bytes ≡ None) right_came
    (refl, (refl, (refl, tt)))

all-right : AreAllRight (both_until 1200000) right_came
all-right = record {
  by_time = (omega arith, (omega arith, (omega arith, tt)));
  right = right;
  strays = none-stray;
}

-- ---- what is counted

source-is : source_at (both_until 1200000) 0 ≡ Some exact_source
unfolding source_at rule_of port_of id_of
source-is = refl

one-sent : sent_up_to (both_until 1200000) right_came 1
    ≡ 0 + counted_by (source_at (both_until 1200000) 0) (own_frames (both_until 1200000) 0 right_came)
unfolding sent_up_to
one-sent = refl

all-sent : sent_up_to (both_until 1200000) right_came 1 ≡ 3
all-sent =
    let own : counted_by (source_at (both_until 1200000) 0) (own_frames (both_until 1200000) 0 right_came) ≡ 3 =
    ap₂ (λ (o : Option Source) (xs : List Came). counted_by o xs) source-is its-frames
    ∙ ap (λ (j : Judged). j.sent) lawful_met.judged in
    omega (arith, one-sent, own)

pub right_met : RightAreMet
right_met = record {
  right = all-right;
  no_line = right_no_line (both_until 1200000) right_came all-right;
  sent = all-sent;
}
