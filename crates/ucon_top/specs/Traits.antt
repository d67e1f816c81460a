-- What each form does.
use Rattle.std.specs.Prelude.{Bool}
use Rattle.ucon_outcome.specs.Ending.{y, n}
use Rattle.ucon_top.specs.declared.form.Form.{Form}
use Rattle.ucon_top.specs.declared.form.Form.TheVariants.{Trial, Check, Gen, Play, Serve, Board, Live, Point, Audit, Report, Explain}

-- What is so of each run of a form.
pub record Traits : Type 0 where
  -- it reads the input
  pub reads : Bool
  -- it makes calls of the disk, for its journal; it runs its lines over that; it writes a checkpoint of it; it runs no line and tells of it
  pub disk : Bool
  pub runs : Bool
  pub points : Bool
  pub tells : Bool
  -- it checks every record of its journal
  pub checks : Bool
  -- it runs each client in a thread of its own
  pub threads : Bool
  -- it has its document whole before it does anything else
  pub whole : Bool

abbrev row : Bool → Bool → Bool → Bool → Bool → Bool → Bool → Bool → Traits
row reads disk runs points tells checks threads whole =
    record { reads = reads; disk = disk; runs = runs; points = points; tells = tells; checks = checks; threads = threads; whole = whole }

-- Each form with its row, from which the words of a form are read.
--      reads
--      | disk
--      | | runs
--      | | | points
--      | | | | tells
--      | | | | | checks
--      | | | | | | threads
--      | | | | | | | whole
abbrev pub traits : Form → Traits
traits Trial =
    row y n n n n n n y
traits Check =
    row y n n n n n n y
traits (Gen seed size) =
    row n n n n n n n y
traits Play =
    row y y y n n n n y
traits Serve =
    row y y y n n n y y
traits Board =
    row y y y n n n y y
traits Live =
    row y y y n n n y n
traits Point =
    row y y n y n n n y
traits (Audit kept) =
    row y y n n y y n y
traits Report =
    row y y n n y y n y
traits (Explain subject right object) =
    row y y n n y n n y
