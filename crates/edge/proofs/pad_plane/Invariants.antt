-- `edge::pad_plane` meets its contract: the first j rows are those of the padded plane.
use lib.ListN.{length}
use Rattle.edge.specs.Edge.{clamped}
use Rattle.edge.proofs.Edges.{Copied}
use Rattle.edge.proofs.pad_plane.Given as goal

abbrev pub invariant-loop-j : goal.invariant-loop-j
invariant-loop-j l = Copied l.rows l.row l.wide (clamped l.row) l.from (length l.initial.to) l.j l.to
