-- What is known of a request that nothing refused: what the engines ask for.
use Rattle.std.specs.Prelude.{ℕ, ◌*◌, ◌≤◌, ◌≡◌}
use Rattle.limits.specs.Limits.{longest_padded}
use Rattle.axis.specs.Bookkeeping.{Reaches}
use Rattle.prefilter.specs.Volume.{count_of}
use Rattle.request.specs.declared.Axes.{Axes}
use Rattle.request.specs.declared.Request.{Request}
use Rattle.request.specs.Sizes.{source_dims, needed}
use Rattle.request.specs.Bookkeeping.{Lengths}

-- `input` is the length of the input
pub record Admitted (r : Request) (a : Axes) (input : ℕ) : Type 0 where
  pub order : r.order ≤ 5
  pub lengths : Lengths r.dims
  pub all : input ≡ count_of r.dims
  pub some : 1 ≤ a.z.out
  pub x : Reaches r.order a.x
  pub y : Reaches r.order a.y
  pub z : Reaches r.order a.z
  pub long : count_of (source_dims r) ≡ a.x.len * (a.y.len * a.z.len)
  pub rows : a.y.len ≤ longest_padded
  pub row : a.z.len ≤ longest_padded

-- and of the lengths of all four buffers, where `places` are wanted of output and of coverage
pub record Passes (r : Request) (a : Axes) (places input output coverage work : ℕ) : Type 0 where
  pub admitted : Admitted r a input
  pub values : output ≡ places
  pub codes : coverage ≡ places
  pub room : needed r ≤ work
