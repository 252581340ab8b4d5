use Rattle.std.proofs.Common.{map}
use Rattle.uwild.specs.Expression.{item_view}
use Rattle.uwild.proofs.Walks.{walk_octet, walk_star, steps_star}
use Rattle.uwild.proofs.matching.matches.Goals as goal

pub loop-rest-preserved-in-BehindOctet : goal.loop-rest-preserved-in-BehindOctet
loop-rest-preserved-in-BehindOctet c =
    walk_octet (map item_view c.args.items.now) c.args.name.now c.loop-rest.star c.loop-rest.at
    c.in-BehindOctet.rest c.loop-rest.invariant c.in-BehindOctet.ensures

pub loop-rest-smaller-in-BehindStar : goal.loop-rest-smaller-in-BehindStar
loop-rest-smaller-in-BehindStar c =
    steps_star (map item_view c.args.items.now) c.args.name.now c.loop-rest.star c.loop-rest.at
    c.in-BehindStar.rest c.loop-rest.invariant c.in-BehindStar.ensures

pub loop-rest-preserved-in-BehindStar : goal.loop-rest-preserved-in-BehindStar
loop-rest-preserved-in-BehindStar c =
    walk_star (map item_view c.args.items.now) c.args.name.now c.loop-rest.star c.loop-rest.at
    c.in-BehindStar.rest c.loop-rest.invariant c.in-BehindStar.ensures
