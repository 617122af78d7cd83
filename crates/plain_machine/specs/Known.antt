-- The built-in classes that rows name, by their places.
use Rattle.plain_machine.specs.Below.{ℕ}

abbrev pub the_object : ℕ
the_object = 0

abbrev pub the_type : ℕ
the_type = 1

abbrev pub the_none_type : ℕ
the_none_type = 2

abbrev pub the_not_implemented_type : ℕ
the_not_implemented_type = 3

abbrev pub the_int : ℕ
the_int = 4

abbrev pub the_bool : ℕ
the_bool = 5

abbrev pub the_str : ℕ
the_str = 6

abbrev pub the_tuple : ℕ
the_tuple = 7

abbrev pub the_list : ℕ
the_list = 8

abbrev pub the_dict : ℕ
the_dict = 9

abbrev pub the_function : ℕ
the_function = 10

abbrev pub the_method : ℕ
the_method = 11

abbrev pub the_builtin_method : ℕ
the_builtin_method = 13

abbrev pub the_getset : ℕ
the_getset = 15

abbrev pub the_class_method : ℕ
the_class_method = 18

abbrev pub the_super : ℕ
the_super = 20
