-- Which natives compare tuples, lists and dicts, and what they say.
use Rattle.native_containers.specs.Below.{Bool, true, false, List, PyObjectRef, NativeEntry, Compare, PlainWorld, PlainTask, ToNative, Bindings, Row, end, elsewhere}
use Rattle.py_node.specs.declared.built_in.BuiltIn.TheVariants as built_in
use Rattle.row_kit.specs.declared.take_containers.Kind.TheVariants as kind
use Rattle.native_containers.specs.NativeCompare.Containers.{sequences_say, dicts_say}

abbrev pub compare_native_say : PlainWorld → NativeEntry → List PyObjectRef → Bindings → Row
compare_native_say w (Compare built_in.Tuple n) args kw = sequences_say kind.Tuple w n args kw
compare_native_say w (Compare built_in.List n) args kw = sequences_say kind.List w n args kw
compare_native_say w (Compare built_in.Dict n) args kw = dicts_say w n args kw
compare_native_say w _ args kw = end w elsewhere

-- these natives, as a group of rows
unfoldable pub compared_job_say : PlainWorld → PlainTask → Row
compared_job_say w (ToNative n args kw) told = compare_native_say w n args kw told
compared_job_say w _ told = end w elsewhere told
