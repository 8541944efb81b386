-- The places, laid between what stands in front and behind.
use native.Mathlib.Omega.{arith}
use Rattle.rules.proofs.DecimalLaws.{length_places}
use Rattle.text.proofs.OverlayLaws.{overlay_between}
use Rattle.text.proofs.PlacesSource.lay.Goals as goal

pub returns : goal.returns
returns c =
    let s = c.args.self in
    let e = length_places s.count s.v in
    overlay_between _ _ _ _ e (omega (arith, c.requires)) c.write_places.ensures
