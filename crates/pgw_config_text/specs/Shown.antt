-- What the reader tells of the front of a text.
use Rattle.pgw_config_text.specs.declared.key_value.Front as declared
use Rattle.pgw_config_text.specs.declared.key_value.Front.TheVariants as front
use Rattle.pgw_config_text.specs.Reader.{PairFront, Nothing, Faulty, Pair}

abbrev pub pair_front : declared.Front → PairFront
pair_front front.Nothing = Nothing
pair_front front.Faulty = Faulty
pair_front (front.Pair key value rest) = Pair key value rest.now
