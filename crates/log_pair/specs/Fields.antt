-- What callers see of the fields of a pair.
use Rattle.wal_frames.specs.Front.{words_of, fields_for}
use Rattle.log_pair.specs.Pair.{LogView, PairView}
use Rattle.log_pair.specs.declared.pair.Log.{Log}
use Rattle.log_pair.specs.declared.pair.LogPair.TheInside.{Inside}

abbrev pub log_view : Log → LogView
log_view log = record { header = fields_for log.header; frames = log.frames }

abbrev pub pair_view : Inside → PairView
pair_view pair = record {
  current = pair.current;
  one = log_view pair.one;
  two = log_view pair.two;
  appended = pair.appended;
  sum = words_of pair.sum;
}
