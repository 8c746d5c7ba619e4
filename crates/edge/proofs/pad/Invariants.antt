-- `edge::pad` meets its contract: the first i planes are those of the padded volume.
use lib.ListN.{length}
use Rattle.edge.proofs.Edges.{Copied, in_plane}
use Rattle.edge.proofs.pad.Given as goal

abbrev pub invariant-loop-i : goal.invariant-loop-i
invariant-loop-i l = Copied l.planes l.plane l.wide (in_plane l.rows l.row) l.from (length l.initial.to) l.i l.to
