-- The tables of the one switch on a side are those of a switch that may have others beside it.
use Rattle.std.proofs.Common.{◌≡◌, ℕ, suc, ◌<◌, ◌≤◌, List, [], ◌∷◌, length, take, slice_get, Some, refl}
use Rattle.std.proofs.Common.{ap, ◌∙◌, subst, arith}
use Rattle.std.specs.List.{AllByRecursion}
use Rattle.std.proofs.Math.Seq.{take-length}
use Rattle.std.proofs.lemmas.List.{drop_all}
use Rattle.std.proofs.lemmas.Option.{slice_get_within}
use Rattle.afdx_frame.proofs.ListLemmas.{AllByRecursion-slice_get}
use Rattle.afdx_config.specs.Lawful.{IsLink, IsLinkUpTo, IsPort, jitter_from_system, jitter_from_any}
use Rattle.afdx_config.specs.Lawful.{IsLawful, IsLawfulSwitch, AreSystems, AreEnds, AreDistinct}
use Rattle.afdx_config.specs.Laws.{AloneIsOne, OneIsBetweenSystems, AdmittedIsServing}
use Rattle.afdx_config.specs.Rows.{SystemRow, LinkRow, Rows}
use Rattle.afdx_config.proofs.LawfulLinkLemmas.{up-to}

link-among : (systems : ℕ) (l : LinkRow) → IsLink systems l → IsLinkUpTo jitter_from_any systems l
link-among systems l is =
    up-to jitter_from_system jitter_from_any systems l is (let most = is.jitter_us.1 in omega (arith, most))

links-among : (systems : ℕ) (links : List LinkRow) → AllByRecursion (IsLink systems) links
    → AllByRecursion (IsLinkUpTo jitter_from_any systems) links
links-among systems [] all = tt
links-among systems (l ∷ links) all = (link-among systems l all.0, links-among systems links all.1)

-- systems alone are ends, of which all are systems
pub ends_alone : (profile own : ℕ) (systems : List SystemRow) → own ≡ length systems → AreSystems profile systems
    → AreEnds profile own systems
ends_alone profile own systems alone are = record {
  count = are.count;
  each = are.each;
  names = are.names;
  ports = are.ports;
  ids = rw alone (rw (take-length systems) are.ids);
  few = omega (arith, alone);
  neighbours = rw (drop_all own systems (omega (arith, alone))) tt;
}

-- the port entries are of systems
module _ (t : Rows) (lawful : IsLawful t) where
  pub among_others : IsLawfulSwitch t
  among_others = record {
    profile = lawful.profile;
    buffer = lawful.buffer;
    own = omega (arith, lawful.own);
    systems = ends_alone t.profile t.own t.systems lawful.own lawful.systems;
    links = record {
      count = lawful.links.count;
      each = links-among (length t.systems) t.links lawful.links.each;
      identifiers = lawful.links.identifiers;
    };
    sent = λ i l at from.
        (AllByRecursion-slice_get (IsLink (length t.systems)) t.links i l lawful.links.each at).jitter_us.1;
    ports = lawful.ports;
    heard = λ i p at. rw lawful.own
        (AllByRecursion-slice_get (IsPort (length t.systems) t.links) t.ports i p lawful.ports.each at).system;
  }

-- a link of a switch without neighbours comes from a system
pub link-alone : (systems : ℕ) (l : LinkRow) → IsLinkUpTo jitter_from_any systems l
    → l.jitter_us ≤ jitter_from_system l.bag_ms → IsLink systems l
link-alone systems l is most = up-to jitter_from_any jitter_from_system systems l is most

links-alone : (systems : ℕ) (links : List LinkRow) → AllByRecursion (IsLinkUpTo jitter_from_any systems) links
    → ((i : ℕ) (l : LinkRow) → slice_get links i ≡ Some l → l.from < systems
    → l.jitter_us ≤ jitter_from_system l.bag_ms)
    → AllByRecursion (IsLink systems) links
links-alone systems [] all sent = tt
links-alone systems (l ∷ links) all sent = (
  link-alone systems l all.0 (sent 0 l refl all.0.from),
  links-alone systems links all.1 (λ i l at. sent (suc i) l at),
)

pub alone-one : AloneIsOne
alone-one t lawful own = record {
  profile = lawful.profile;
  buffer = lawful.buffer;
  own = own;
  systems = record {
    count = lawful.systems.count;
    each = lawful.systems.each;
    names = lawful.systems.names;
    ports = lawful.systems.ports;
    ids = subst (λ rows. AreDistinct (λ (s : SystemRow). s.id) rows)
        (ap (λ n. take n t.systems) own ∙ take-length t.systems) lawful.systems.ids;
  };
  links = record {
    count = lawful.links.count;
    each = links-alone (length t.systems) t.links lawful.links.each
        (λ i l at from. lawful.sent i l at (omega (arith, own, from)));
    identifiers = lawful.links.identifiers;
  };
  ports = lawful.ports;
}

pub between-systems : OneIsBetweenSystems
between-systems t system place s l lawful stands at = record {
  from =
      let from = (AllByRecursion-slice_get (IsLink (length t.systems)) t.links place l lawful.links.each at).from in
      omega (arith, from, lawful.own);
  to = let within = slice_get_within t.systems system s stands in omega (arith, within, lawful.own);
}

pub admitted-serving : AdmittedIsServing
admitted-serving t admitted = record { ports = admitted.ports; skews = admitted.skews }
